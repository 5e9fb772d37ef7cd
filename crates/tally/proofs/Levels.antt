-- The item walk, step by step: what the code's answers say of a level's step.
use mathlib.Core.Path.{◌≡◌, refl, ap, ◌∙◌, subst}
use Prim.Native.Nat.{ℕ, ◌+◌, ◌-◌, ◌≤◌, ◌<◌}
use native.Mathlib.Omega.{arith}
use mathlib.Core.Bool.{Bool, true, false, ◌&&◌}
use mathlib.Core.List.{List}
use lib.ListN.{length, take, drop, length-drop}
use lib.Seq.{length-take-le}
use lib.Dec.{eqb}
use Rattle.format.specs.Answer.{Ans, ok, refused, Got, got, ◌>>=◌, after}
use Rattle.format.specs.Coding.{Bytes, oid_bytes}
use Rattle.format.specs.Table.{Form, Level, set, pack, is_set, rule_of, short}
use Rattle.format.specs.Packet.{Item, Pack, plain, series, id_of_pack, flat_item}
use Rattle.format.specs.Run.{run, always}
use Rattle.format.specs.Read.{item, one_pack, deepen}
use Rattle.format.proofs.Words.Answers.{bind_then, ok_inj}
use Rattle.format.proofs.Words.Bytes.{took_length}
use Rattle.format.proofs.Coding.Lengths.{holds_pos}
use Rattle.format.proofs.Coding.Oids.{oid_some}
use Rattle.format.proofs.Table.Values.{short_size}
use Rattle.format.proofs.Bounds.Packets.{Here, item_here, item_room, head_room}
use Rattle.format.proofs.Reading.Items.{length_item, item_says}
use Rattle.coding.proofs.Counts.{len_most}
use Rattle.items.specs.Meet.{level_of}
use Rattle.heads.specs.Meet.{peek}
use Rattle.heads.proofs.Before.{item_peek}
use Rattle.tally.specs.Pieces as piece
use Rattle.tally.specs.declared.Sizes.{Sizes}
use Rattle.tally.specs.Pieces.{Good, Bad}
use Rattle.tally.specs.Meet.{piece_of, item_sizes, total, weight_of_pack, weight_of_entry, deepen_at, step_at, walked_of, series_walk, Few}

-- ---- what a piece says of its item

pub here_zero : {A : Type 0} (x : Ans A) (n q : ℕ) → Here x → x ≡ refused n q → q ≡ 0
here_zero x n q h e = omega (arith, (h.by n q e).1)

fault_says : (l : Level) (x : Ans (Got Item)) (n : ℕ) → Here x → piece.Fault n ≡ piece_of l x → x ≡ refused n 0
fault_says l (ok i) n h e = absurd (let z : ◌≡◌ {A = ℕ} 0 1 = cc in omega arith)
fault_says l (refused m q) n h e =
    let a : m ≡ n = cc in
    let b : q ≡ 0 = here_zero (refused m q) m q h refl in
    ap (λ k. refused k q) a ∙ ap (refused n) b

whole_says : {X : Type 0} (l : Level) (x : Ans (Got Item)) (t f n s : ℕ) → piece.Whole t f n s ≡ piece_of l x
    → ((i : Got Item) → x ≡ ok i → i.val.tag ≡ t → i.used - length i.val.value ≡ f → length i.val.value ≡ n → length (short (rule_of l i.val.tag) i.val.value) ≡ s → X) → X
whole_says l (ok i) t f n s e k = k i refl (cc) (cc) (cc) (cc)
whole_says l (refused m q) t f n s e k = absurd (let z : ◌≡◌ {A = ℕ} 0 1 = cc in omega arith)

-- an item that was read from u: its value is the part that the piece names
pub record Stood (l : Level) (f : Form) (seen u : List ℕ) (tag from size small : ℕ) : Type 0 where
  pub it : Got Item
  pub read : item l f seen u ≡ ok it
  pub tag_is : it.val.tag ≡ tag
  pub tag_small : tag ≤ 16383
  pub tag_long : length (oid_bytes tag) < from
  pub used_is : it.used ≡ from + size
  pub value_is : it.val.value ≡ take size (drop from u)
  pub short_is : length (short (rule_of l tag) it.val.value) ≡ small
  pub short_less : small ≤ size
  pub some : 0 < size
  pub head : 2 ≤ from
  pub room : from + size ≤ length u

-- the value of an item that was read
value_part : (l : Level) (f : Form) (seen u : List ℕ) (i : Got Item) → item l f seen u ≡ ok i
    → i.val.value ≡ take (length i.val.value) (drop (i.used - length i.val.value) u)
unfolding item
value_part l f seen u i e =
    bind_then _ _ _ e λ h eh e₁.
    bind_then _ _ _ e₁ λ _ _ e₂.
    let r = head_room l u h eh in
    let n : length (take h.size (drop h.from u)) ≡ h.size = length-take-le h.size (drop h.from u) (rw length-drop (omega arith)) in
    let z : h.from + h.size - h.size ≡ h.from = omega arith in
    rw (← ok_inj _ _ e₂) (rw (n, z))

pub stood : (l : Level) (f : Form) (seen u : List ℕ) (tag from size small : ℕ) → Bytes u → piece.Whole tag from size small ≡ piece_of l (item l f seen u)
    → Stood l f seen u tag from size small
stood l f seen u tag from size small b e =
    whole_says l (item l f seen u) tag from size small e λ i ei t₁ t₂ t₃ t₄.
    let (took, k) = item_says l f seen u i b ei in
    let (r₁, r₂) = item_room l f seen u i ei in
    let len : length (flat_item i.val) ≡ i.used = took_length _ _ _ took in
    let parts = length_item i.val in
    let some = k.ruled.not_empty in
    let sh = (short_size (rule_of l i.val.tag) i.val.value some).1 in
    record {
      it = i;
      read = ei;
      tag_is = t₁;
      tag_small = rw (← t₁) k.high;
      tag_long = rw (← t₁) (omega (arith, t₂, len, parts, holds_pos i.val.width (length i.val.value) k.coded, r₂));
      used_is = omega (arith, t₂, t₃, r₂);
      value_is = value_part l f seen u i ei ∙ rw (t₂, t₃);
      short_is = subst (λ k. length (short (rule_of l k) i.val.value) ≡ small) t₁ t₄;
      short_less = omega (arith, t₃, t₄, sh);
      some = omega (arith, t₃, some);
      head = omega (arith, t₂, len, parts, oid_some i.val.tag, holds_pos i.val.width (length i.val.value) k.coded, r₂);
      room = omega (arith, t₂, t₃, r₁, r₂);
    }

-- ---- the step that follows

pub step_fault : (l : Level) (f : Form) (seen u : List ℕ) (n : ℕ) → piece.Fault n ≡ piece_of l (item l f seen u) → step_at l f seen u ≡ refused n 0
unfolding step_at ◌>>=◌
step_fault l f seen u n e = rw (fault_says l (item l f seen u) n (item_here l f seen u) e)

-- the head that a look back will read
pub read_peek : (b : Bool) (f : Form) (seen u : List ℕ) (i : Got Item) → item (level_of b) f seen u ≡ ok i → peek false false b u ≡ got i.val.tag i.used
unfolding item
read_peek b f seen u i e =
    bind_then _ _ _ e λ h eh e₁.
    bind_then _ _ _ e₁ λ _ _ e₂.
    rw (← ok_inj _ _ e₂) (item_peek b u h eh)

pub deepen_plain : (l : Level) (f : Form) (i : Got Item) → is_set l && eqb i.val.tag 101 ≡ false → deepen_at l f i ≡ ok (got (plain i.val) i.used)
unfolding deepen_at deepen
deepen_plain set f i z = rw (z, deepen)
deepen_plain pack f i z = refl

pub deepen_series : (f : Form) (i : Got Item) → eqb i.val.tag 101 ≡ true
    → deepen_at set f i ≡ (after (i.used - length i.val.value) (run always id_of_pack (one_pack f) i.val.value) >>= λ ps. ok (got (series i.val.width ps.val) i.used))
unfolding deepen_at deepen
deepen_series f i z = rw (z, deepen)

module _ (l : Level) (f : Form) (seen u : List ℕ) (tag from size small : ℕ) (k : Stood l f seen u tag from size small) where
  item_step : step_at l f seen u ≡ deepen_at l f k.it
  unfolding step_at ◌>>=◌
  item_step = rw k.read

  -- no series
  module _ (z : is_set l && eqb tag 101 ≡ false) where
    pub plain_step : step_at l f seen u ≡ ok (got (plain k.it.val) k.it.used)
    plain_step = item_step ∙ deepen_plain l f k.it (rw k.tag_is z)

    pub plain_weight : weight_of_entry l (plain k.it.val) ≡ item_sizes l tag small
    plain_weight = rw (k.tag_is, k.short_is)

  pub plain_few : Few (item_sizes l tag small) (from + size)
  unfolding item_sizes
  plain_few = go (is_set l && eqb tag 1) refl
    where
      go : (b : Bool) → is_set l && eqb tag 1 ≡ b → Few (item_sizes l tag small) (from + size)
      go true z = rw (z, item_sizes) (record { sheet = omega arith; rows = omega (arith, k.head); normal = omega arith; inner = omega arith })
      go false z = rw (z, item_sizes) (record {
        sheet = omega (arith, k.head, k.short_less);
        rows = omega (arith, k.head);
        normal = omega (arith, k.head, k.short_less, k.some, k.tag_long, len_most small);
        inner = omega arith;
      })

-- a series
module _ (f : Form) (seen u : List ℕ) (from size small : ℕ) (k : Stood set f seen u 101 from size small) where
  from_is : k.it.used - length k.it.val.value ≡ from
  from_is =
      let n : length k.it.val.value ≡ size = ap length k.value_is ∙ length-take-le size (drop from u) (rw length-drop (omega (arith, k.room))) in
      omega (arith, n, k.used_is)

  series_step : step_at set f seen u ≡ (after from (run always id_of_pack (one_pack f) (take size (drop from u))) >>= λ ps. ok (got (series k.it.val.width ps.val) k.it.used))
  series_step =
      item_step set f seen u 101 from size small k
      ∙ deepen_series f k.it (rw k.tag_is)
      ∙ rw (from_is, k.value_is)

  pub series_bad : (n q : ℕ) → Bad n q ≡ series_walk f (take size (drop from u)) → step_at set f seen u ≡ refused n (from + q)
  unfolding series_walk
  series_bad n q e = series_step ∙ go (run always id_of_pack (one_pack f) (take size (drop from u))) e
    where
      go : (x : Ans (Got (List Pack))) → Bad n q ≡ walked_of weight_of_pack (λ p. 0) x
          → (after from x >>= λ ps. ok (got (series k.it.val.width ps.val) k.it.used)) ≡ refused n (from + q)
      go (ok ps) e = absurd (let z : ◌≡◌ {A = ℕ} 0 1 = cc in omega arith)
      go (refused m p) e = unfold ◌>>=◌ after in (let a : m ≡ n = cc in let b : p ≡ q = cc in ap (λ k. refused k (from + p)) a ∙ ap (λ k. refused n (from + k)) b)

  -- the entry that a series is read as
  pub record SeriesStood (a : Sizes) : Type 0 where
    pub packs : List Pack
    pub step : step_at set f seen u ≡ ok (got (series k.it.val.width packs) k.it.used)
    pub weight : total weight_of_pack packs ≡ a

  pub series_good : (a : Sizes) (m : ℕ) → Good a m ≡ series_walk f (take size (drop from u)) → SeriesStood a
  unfolding series_walk
  series_good a m e = go (run always id_of_pack (one_pack f) (take size (drop from u))) refl e
    where
      go : (x : Ans (Got (List Pack))) → run always id_of_pack (one_pack f) (take size (drop from u)) ≡ x → Good a m ≡ walked_of weight_of_pack (λ p. 0) x → SeriesStood a
      go (ok ps) r e = record { packs = ps.val; step = series_step ∙ unfold ◌>>=◌ after in (rw r); weight = cc }
      go (refused n p) r e = absurd (let z : ◌≡◌ {A = ℕ} 0 1 = cc in omega arith)
