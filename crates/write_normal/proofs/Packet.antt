-- The normal form of a packet that was read: what the entries of its set write, and how many bytes the packs of its series take.
use mathlib.Core.Path.{◌≡◌, refl, sym, ap, ◌∙◌}
use mathlib.Core.Logic.{◌⊎◌, inl, inr}
use Prim.Native.Nat.{ℕ}
use native.Mathlib.Omega.{arith}
use mathlib.Core.Bool.{Bool, true, false, ◌&&◌}
use mathlib.Core.List.{List, [], ◌∷◌, map}
use lib.ListN.{length, drop}
use lib.Dec.{eqb}
use Rattle.format.specs.Answer.{ok}
use Rattle.format.specs.Coding.{Bytes}
use Rattle.format.specs.Lists.{flat_all}
use Rattle.format.specs.Table.{Form, embedded, standalone, set, is_set}
use Rattle.format.specs.Packet.{Item, Pack, Entry, plain, series, Packet, tag_of_entry, flat_entry}
use Rattle.format.specs.Read.{start, unsealed, entry}
use Rattle.format.specs.Run.{run, always}
use Rattle.format.specs.Rows.{seal_item}
use Rattle.format.specs.Sheet.{val_of, target_of, part_of, content}
use Rattle.format.specs.Calls.{entry_of}
use Rattle.format.specs.Valid.{All, Once}
use Rattle.format.proofs.Words.Bytes.{bytes_drop}
use Rattle.format.proofs.Reading.Packets.{set_says, set_once}
use Rattle.tally.specs.Meet.{total, item_sizes, weight_of_item, weight_of_pack, weight_of_entry, weight_of_target, step_at, deepen_at}
use Rattle.tally.specs.Runs.{level_run}
use Rattle.tally.proofs.Maps.{total_map}
use Rattle.tally.proofs.Inners.{one_inside}
use Rattle.tally.proofs.Totals.{pack_says, targets_normal_lem, seal_last}
use Rattle.tally.proofs.Parsed.{Sealing, Parsed}
use Rattle.write_laws.proofs.Unsealed.{unsealed_same}
use Rattle.write_normal.specs.Meet.{item_normal, entry_normal, pack_normal, level_normal, InnerIs, InnerRun}
use Rattle.write_normal.proofs.Forms.{packs_normal}

-- ---- what the entries write

part_written : (e : Entry) → eqb (tag_of_entry e) 1 ≡ false → flat_entry (entry_of (part_of e)) ≡ entry_normal set e
unfolding part_of entry_of flat_entry val_of item_normal
part_written (plain i) z = rw (z, item_normal)
part_written (series w ps) z = refl

-- the checksum writes nothing
seal_written : (c : List ℕ) → entry_normal set (plain (seal_item c)) ≡ []
unfolding item_normal seal_item
seal_written c = refl

parts_written : (es : List Entry) → All (λ e. eqb (tag_of_entry e) 1 ≡ false) es → flat_all flat_entry (map entry_of (map part_of es)) ≡ flat_all (entry_normal set) es
unfolding flat_all
parts_written [] h = refl
parts_written (e ∷ es) h = rw (part_written e h.0, parts_written es h.1)

module _ {f : Form} {s : List ℕ} {p : Packet} (k : Parsed f s p) where
  pub normal_whole : flat_all flat_entry (map entry_of (content p).parts) ≡ level_normal set f (drop (start f k.width) s)
  unfolding content
  normal_whole = rw (k.packet_is, k.runs, parts_written (unsealed k.es.val) k.no_seal, unsealed_same (entry_normal set) seal_written f k.es.val k.sum k.sealing)

-- ---- the packs of the series

packs_long : (ps : List Pack) → length (flat_all pack_normal ps) ≡ (total weight_of_pack ps).normal
packs_long ps = ap length (sym (packs_normal ps)) ∙ targets_normal_lem (map target_of ps) ∙ ap (λ a. a.normal) (sym (total_map target_of weight_of_pack weight_of_target pack_says ps))

item_inner : (i : Item) → (weight_of_item set i).inner ≡ 0
unfolding item_sizes
item_inner i = go (is_set set && eqb i.tag 1) refl
  where
    go : (b : Bool) → is_set set && eqb i.tag 1 ≡ b → (weight_of_item set i).inner ≡ 0
    go true z = rw (z, item_sizes)
    go false z = rw (z, item_sizes)

entry_inside : (n : ℕ) (e : Entry) → (((weight_of_entry set e).inner ≡ 0) × InnerIs n e) ⊎ ((tag_of_entry e ≡ 101) × (n ≡ (weight_of_entry set e).inner → InnerIs n e))
entry_inside n (plain i) = inl (item_inner i, tt)
entry_inside n (series w ps) = inr (refl, λ e. omega (arith, e, packs_long ps))

-- the checksum is none
sealed_inner : (f : Form) (es : List Entry) (sum : List ℕ) → Sealing f es sum → (total (weight_of_entry set) (unsealed es)).inner ≡ (total (weight_of_entry set) es).inner
sealed_inner embedded es sum e = ap (λ x. (total (weight_of_entry set) x).inner) (sym e)
sealed_inner standalone es sum (c, n, e) = omega (arith, ap (λ x. (total (weight_of_entry set) x).inner) e, ap (λ a. a.inner) (seal_last c (unsealed es)))

module _ {f : Form} {s : List ℕ} {p : Packet} (k : Parsed f s p) (b : Bytes s) where
  -- no tag stands twice
  set_read : run always tag_of_entry (entry f) (drop (start f k.width) s) ≡ ok k.es
  unfolding level_run step_at deepen_at entry
  set_read = k.runs

  once : Once (map tag_of_entry k.es.val)
  once = set_once f k.es.val (set_says f (drop (start f k.width) s) k.es (bytes_drop (start f k.width) s b) set_read).1

  pub inner_run : {n : ℕ} → n ≡ (total (weight_of_entry set) p.entries).inner → InnerRun n (level_run set f (drop (start f k.width) s))
  inner_run {n = n} e =
      rw k.runs (one_inside tag_of_entry (weight_of_entry set) InnerIs 101 entry_inside n k.es.val once (e ∙ ap (λ x. (total (weight_of_entry set) x.entries).inner) k.packet_is ∙ sealed_inner f k.es.val k.sum k.sealing))
