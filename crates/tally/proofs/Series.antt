-- The pack walk, step by step: what the code's answers say of a series' step.
use mathlib.Core.Path.{◌≡◌, refl, sym, ap, ◌∙◌}
use Prim.Native.Nat.{ℕ, ◌+◌, ◌≤◌, ◌<◌, ◌^◌}
use native.Mathlib.Omega.{arith}
use mathlib.Core.Bool.{true, false, not}
use mathlib.Core.List.{List, map}
use lib.ListN.{length, take, drop}
use Rattle.format.specs.Answer.{Ans, ok, refused, Got, got, ◌>>=◌, after}
use Rattle.format.specs.Coding.{Bytes, oid_bytes}
use Rattle.format.specs.Lists.{has}
use Rattle.format.specs.Table.{Form, pack, ended}
use Rattle.format.specs.Packet.{Item, Pack, plain, tag_of_item, tag_of_entry}
use Rattle.format.specs.Run.{run, always}
use Rattle.format.specs.Read.{item, pack_head, one_pack}
use Rattle.format.proofs.Words.Answers.{after_ok}
use Rattle.format.proofs.Words.Bytes.{took_length}
use Rattle.format.proofs.Coding.Lengths.{holds_pos}
use Rattle.format.proofs.Reading.Packs.{pack_head_says}
use Rattle.coding.proofs.Counts.{oid_most}
use Rattle.items.proofs.Tests.{bind_so, bind_not, need_so, need_not}
use Rattle.std.proofs.Common.{Ok}
use Rattle.heads.specs.Meet.{head, pack_head_of}
use Rattle.tally.proofs.Maps.{mapped, run_map, total_map, mapped_good, mapped_bad, walked_good, walked_bad}
use Rattle.tally.specs.declared.Sizes.{Sizes}
use Rattle.tally.specs.Pieces.{Good, Bad}
use Rattle.tally.specs.Meet.{total, bits, weight_of_item, weight_of_entry, bit_of, deepen_at, step_at, level_walk}
use Rattle.tally.proofs.Bits.{bits_map}

-- ---- a pack's items, read as entries

pub run_plain : (f : Form) (s : List ℕ) → run always tag_of_entry (step_at pack f) s ≡ mapped plain (run always tag_of_item (item pack f) s)
unfolding step_at deepen_at
run_plain f s = run_map plain always tag_of_item tag_of_entry (item pack f) (step_at pack f) (λ i. refl) (λ seen t. refl) s

bits_plain : (is : List Item) → bits (λ e. bit_of (tag_of_entry e)) (map plain is) ≡ bits bit_of (map tag_of_item is)
bits_plain is = sym (bits_map plain (λ e. bit_of (tag_of_entry e)) is) ∙ bits_map tag_of_item bit_of is

-- what a walk of a pack's items says of the run
pub items_good : {X : Type 0} (f : Form) (s : List ℕ) (a : Sizes) (m : ℕ) → Good a m ≡ level_walk pack f s
    → ((is : Got (List Item)) → run always tag_of_item (item pack f) s ≡ ok is → total (weight_of_item pack) is.val ≡ a → bits bit_of (map tag_of_item is.val) ≡ m → X) → X
unfolding level_walk
items_good f s a m e k =
    let w = walked_good (weight_of_entry pack) (λ e. bit_of (tag_of_entry e)) (run always tag_of_entry (step_at pack f) s) a m e in
    let (is, r, q) = mapped_good plain (run always tag_of_item (item pack f) s) w.rs (sym (run_plain f s) ∙ w.ran) in
    k is r
    (total_map plain (weight_of_item pack) (weight_of_entry pack) (λ i. refl) is.val ∙ ap (total (weight_of_entry pack)) q ∙ w.weighs)
    (sym (bits_plain is.val) ∙ ap (bits (λ e. bit_of (tag_of_entry e))) q ∙ w.holds)

pub items_bad : (f : Form) (s : List ℕ) (n q : ℕ) → Bad n q ≡ level_walk pack f s → run always tag_of_item (item pack f) s ≡ refused n q
unfolding level_walk
items_bad f s n q e = mapped_bad plain _ n q (sym (run_plain f s) ∙ walked_bad (weight_of_entry pack) (λ e. bit_of (tag_of_entry e)) (run always tag_of_entry (step_at pack f) s) n q e)

-- ---- a pack

pub after_not : {A : Type 0} (k : ℕ) (m : Ans A) (n p : ℕ) → m ≡ refused n p → after k m ≡ refused n (k + p)
unfolding after
after_not k m n p e = rw e

head_fault : (s : List ℕ) (n : ℕ) → refused n 0 ≡ pack_head s → (f : Form) (seen : List ℕ) → one_pack f seen s ≡ refused n 0
unfolding one_pack
head_fault s n e f seen = bind_not _ _ n 0 (sym e)

pub pack_fault : (f : Form) (seen s : List ℕ) (n : ℕ) → refused n 0 ≡ pack_head s → one_pack f seen s ≡ refused n 0
pack_fault f seen s n e = head_fault s n e f seen

module _ (f : Form) (seen s : List ℕ) (k u w n : ℕ) (e : pack_head_of (Ok (head k u w n)) ≡ pack_head s) where
  -- what is known of the bytes
  pub record PackStood : Type 0 where
    pub room : w + n ≤ length s
    pub len : 0 < w
    pub key : 0 < u
    pub body : u ≤ n
    pub id_long : length (oid_bytes k) ≡ u
    pub id_few : u ≤ 9
    pub id_range : k < 2 ^ 63

  pub pack_stood : Bytes s → PackStood
  pack_stood b =
      let h = pack_head_says s (record { width = w; size = n; id = k; used = u }) b (sym e) in
      let l = h.size_is in
      record { room = h.room; len = holds_pos w n h.coded; key = h.id_took.pos; body = omega (arith, h.id_took.room, l); id_long = took_length _ _ _ h.id_took; id_few = omega (arith, took_length _ _ _ h.id_took, oid_most k); id_range = h.id_range }

  pub pack_10 : true ≡ has k seen → one_pack f seen s ≡ refused 10 0
  unfolding one_pack
  pack_10 q = bind_so _ _ _ (sym e) ∙ need_not _ _ _ (ap not (sym q))

  abbrev items_at : List ℕ
  items_at = drop u (take n (drop w s))

  abbrev items_run : Ans (Got (List Item))
  items_run = run always tag_of_item (item pack f) items_at

  -- all that follows the head, where no pack before has this id
  abbrev pack_end : Got (List Item) → Ans (Got Pack)
  pack_end is = ended f (map tag_of_item is.val) >>= λ _. ok (got (record { width = w; id = k; items = is.val }) (w + n))

  module _ (q : false ≡ has k seen) where
    pack_on : one_pack f seen s ≡ (after (w + u) items_run >>= pack_end)
    unfolding one_pack
    pack_on = bind_so _ _ _ (sym e) ∙ need_so _ _ _ (ap not (sym q))

    pub pack_inside : (x y : ℕ) → items_run ≡ refused x y → one_pack f seen s ≡ refused x (w + u + y)
    pack_inside x y r = pack_on ∙ bind_not (after (w + u) items_run) pack_end x (w + u + y) (after_not (w + u) items_run x y r)

    module _ (is : Got (List Item)) (r : items_run ≡ ok is) where
      pack_ended : one_pack f seen s ≡ pack_end is
      pack_ended = pack_on ∙ bind_so (after (w + u) items_run) pack_end is (after_ok (w + u) items_run is r)

      pub pack_refused : {x : ℕ} → ended f (map tag_of_item is.val) ≡ refused x 0 → one_pack f seen s ≡ refused x 0
      pack_refused {x = x} z = pack_ended ∙ bind_not _ _ x 0 z

      pub pack_good : ended f (map tag_of_item is.val) ≡ ok tt → one_pack f seen s ≡ ok (got (record { width = w; id = k; items = is.val }) (w + n))
      pack_good z = pack_ended ∙ bind_so _ _ tt z
