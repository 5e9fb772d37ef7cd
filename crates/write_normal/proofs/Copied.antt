-- A pack whose items keep their size: their normal form is their bytes.
use mathlib.Core.Path.{◌≡◌, sym, ap, ◌∙◌, subst}
use Prim.Native.Nat.{ℕ, ◌+◌, ◌-◌}
use native.Mathlib.Omega.{arith}
use native.Mathlib.Nat.{add_assoc}
use mathlib.Core.List.{List, ◌++◌, append_assoc, map}
use lib.ListN.{length, take, drop, length-append}
use lib.Seq.{drop-drop, take_at, drop_at}
use Rattle.format.specs.Coding.{oid_bytes, len_bytes}
use Rattle.format.specs.Lists.{flat_all}
use Rattle.format.specs.Table.{Form, pack}
use Rattle.format.specs.Packet.{Pack, flat_item, pack_body, flat_pack}
use Rattle.format.specs.Sheet.{val_of}
use Rattle.format.specs.Calls.{item_of}
use Rattle.format.specs.Valid.{All, ItemValid}
use Rattle.format.proofs.Words.Bytes.{bytes_drop, Took}
use Rattle.format.proofs.Coding.Lengths.{length_len}
use Rattle.format.proofs.Reading.Packs.{PackRead, pack_says}
use Rattle.format.proofs.Sheets.Same.{items_shrink}
use Rattle.heads.specs.declared.Head.{Head}
use Rattle.tally.specs.Meet.{total, weight_of_item}
use Rattle.tally.specs.Runs.{made_of}
use Rattle.write_laws.proofs.Writing.{each}
use Rattle.write_laws.proofs.Packs.{PackAt, one_pack_lem, pack_stands, items_at, items_long, items_run}
use Rattle.write_normal.specs.Meet.{entry_normal, pack_normal, level_normal}
use Rattle.write_normal.proofs.Forms.{same_normal, body_long}

-- a pack as what stands in front of its items, and the items
front_apart : (p : Pack) (t : List ℕ) → flat_pack p ++ t ≡ (len_bytes p.width (length (pack_body p)) ++ oid_bytes p.id) ++ (flat_all flat_item p.items ++ t)
unfolding flat_pack pack_body
front_apart p t = simp append_assoc

module _ {f : Form} {s out₀ out : List ℕ} {p k : ℕ} {h : Head} (i : PackAt f s out₀ out p k h (each pack_normal) tt tt) where
  said : Took (flat_pack (one_pack_lem i).it.val) (drop p s) (one_pack_lem i).it.used × PackRead f i.going.writes.seen (one_pack_lem i).it.val
  said = pack_says f i.going.writes.seen (drop p s) (one_pack_lem i).it (bytes_drop p s i.bytes) (one_pack_lem i).read

  items_valid : All (ItemValid pack f) (pack_stands i).items
  items_valid = subst (λ q. All (ItemValid pack f) q.items) (pack_stands i).it_is said.1.valid.items_valid.each

  items_flat : items_at i ≡ flat_all flat_item (pack_stands i).items
  items_flat =
      let w = pack_stands i in
      let q : Pack = record { width = h.width; id = h.key; items = w.items } in
      let front : List ℕ = len_bytes h.width (length (pack_body q)) ++ oid_bytes h.key in
      let items : List ℕ = flat_all flat_item w.items in
      let rest : List ℕ = drop (one_pack_lem i).it.used (drop p s) in
      let z : drop p s ≡ front ++ (items ++ rest) = said.0.bytes ∙ ap (λ x. flat_pack x ++ rest) w.it_is ∙ front_apart q rest in
      let lf : length front ≡ h.width + h.used = length-append (len_bytes h.width (length (pack_body q))) (oid_bytes h.key) ∙ ap (λ x. x + length (oid_bytes h.key)) (length_len h.width (length (pack_body q))) ∙ ap (λ x. h.width + x) w.oid in
      let lb : length (pack_body q) ≡ h.size = ap (λ x. length (pack_body x)) (sym w.it_is) ∙ w.body_is in
      let li : length items ≡ p + h.width + h.size - (p + h.width + h.used) = omega (arith, lb, body_size q, w.oid) in
      let d : drop (p + h.width + h.used) s ≡ items ++ rest
      = ap (λ x. drop x s) (add_assoc p h.width h.used) ∙ sym (drop-drop (h.width + h.used) p s) ∙ ap (drop (h.width + h.used)) z ∙ drop_at front (items ++ rest) (h.width + h.used) lf in
      ap (take (p + h.width + h.size - (p + h.width + h.used))) d ∙ take_at items rest _ li
    where
      body_size : (q : Pack) → length (pack_body q) ≡ length (oid_bytes q.id) + length (flat_all flat_item q.items)
      body_size q = unfold pack_body in (length-append (oid_bytes q.id) (flat_all flat_item q.items))

  -- n: how many bytes they are in normal form
  pub items_same : {n : ℕ} → n ≡ (total (weight_of_item pack) (pack_stands i).items).normal → h.used + n ≡ h.size → level_normal pack f (items_at i) ≡ items_at i
  items_same {n = n} e z =
      let w = pack_stands i in
      let normal : List ℕ = flat_all flat_item (map item_of (map (val_of pack) w.items)) in
      let made : level_normal pack f (items_at i) ≡ normal
      = ap (made_of (flat_all (entry_normal pack))) (items_run i) ∙ ap (flat_all (entry_normal pack)) w.entries_are ∙ sym (same_normal w.items) in
      let l : length normal ≡ length (flat_all flat_item w.items)
      = omega (arith, sym (length-append (oid_bytes h.key) normal) ∙ body_long h.key w.items, e, z, items_long i, ap length items_flat) in
      made ∙ (items_shrink f w.items items_valid).same l ∙ sym items_flat
