-- Ids told apart in blocks: a key looked for in a block, a block missed by what stood before, a block gathered, and how far no id repeats.
use mathlib.Core.Path.{◌≡◌, refl, sym, ap, ◌∙◌}
use Prim.Native.Nat.{ℕ, zero, suc, ◌+◌, ◌-◌, ◌≤◌, ◌<◌}
use native.Mathlib.Omega.{arith}
use native.Mathlib.Numerals.{add-one}
use mathlib.Core.Bool.{Bool, true, false, ◌||◌}
use mathlib.Core.List.{List, [], ◌∷◌, ◌++◌}
use lib.ListN.{length, take, drop, get_or, set, length-drop, length-set}
use lib.Seq.{drop-drop, drop-cons, drop-length, take-suc-set}
use lib.Dec.{eqb}
use Rattle.std.proofs.Common.{Some}
use borrow.Author.Tests.{eq-eqb, ne_eqb}
use Rattle.format.specs.Answer.{Got, got}
use Rattle.format.specs.Lists.{has}
use Rattle.format.specs.Valid.{Once}
use Rattle.format.proofs.Words.Answers.{no_bool, or_mono, or_right}
use Rattle.format.proofs.Words.Keys.{has_not, once_snoc}
use Rattle.coding.proofs.Rooms.{tail_part}
use Rattle.heads.specs.declared.Next.{Next}
use Rattle.heads.specs.Meet.{Peeked, Heads, Clear}
use Rattle.repeats.specs.Blocks.{FirstOf, Missed}
use Rattle.heads.proofs.Before.{Looks, Left, left_start, left_done, left_passed, has_snoc, heads_more}
use Rattle.repeats.proofs.Clears.{each_on, not_then, clear_none}

-- ---- a key looked for in a block

or_more : (a b c : Bool) → a || (b || c) ≡ (a || b) || c
or_more true b c = refl
or_more false b c = refl

or_done : (a : Bool) → a || false ≡ a
or_done true = refl
or_done false = refl

-- the key is among the block just where it was found so far, or is among what is left
pub record AmongLeft (block : List ℕ) (key : ℕ) (found : Bool) (i : ℕ) : Type 0 where
  pub to : i ≤ length block
  pub rest : has key block ≡ (found || has key (drop i block))

pub among_start : (block : List ℕ) (key : ℕ) → AmongLeft block key false 0
among_start block key = record { to = omega arith; rest = refl }

module _ (block : List ℕ) (key : ℕ) (found : Bool) (i : ℕ) (l : AmongLeft block key found i) where
  pub among_more : i < length block → AmongLeft block key (found || eqb (get_or block i 0) key) (i + 1)
  unfolding has
  among_more h = record {
    to = omega arith;
    rest = l.rest ∙ rw (drop-cons block i 0 h, add-one) (or_more found (eqb (get_or block i 0) key) (has key (drop (suc i) block)));
  }

  pub among_done : length block ≤ i → found ≡ has key block
  unfolding has
  among_done h =
      let e : i ≡ length block = omega (arith, l.to) in
      sym (l.rest ∙ rw (e, drop-length block) (or_done found))

-- ---- a block missed by what stood before

-- each of the block stood before p just where it stands from q on
pub record MissedTo (look : List ℕ → Got ℕ) (s : List ℕ) (p : ℕ) (block : List ℕ) (q : ℕ) : Type 0 where
  pub within : q ≤ length s
  pub left : (key : ℕ) → has key block ≡ true → Left look s p key q

pub missed_start : (look : List ℕ → Got ℕ) (s : List ℕ) (p : ℕ) (block : List ℕ) → MissedTo look s p block 0
missed_start look s p block = record { within = omega arith; left = λ key e. left_start look s p key }

module _ (look : List ℕ → Got ℕ) (s : List ℕ) (p : ℕ) (block : List ℕ) (q : ℕ) (m : MissedTo look s p block q) where
  module _ (room : Looks look) (g : q < p) (n : Next) (r : Peeked look (take (length s - q) (drop q s)) (Some n)) where
    pub missed_room : q + n.used ≤ length s
    missed_room = omega (arith, m.within, room (drop q s), ap (λ (x : Got ℕ). x.used) (rw tail_part at r.0), length-drop q s)

    pub missed_more : has n.key block ≡ false → MissedTo look s p block (q + n.used)
    missed_more e = record {
      within = missed_room;
      left = λ key f. left_passed look s p key q (m.left key f) g n r room λ z. no_bool (sym e ∙ ap (λ j. has j block) z ∙ f);
    }

  pub missed_done : p ≤ q → Missed look s p block
  missed_done g ks h key e = sym (left_done look s p key q (m.left key e) g ks h)

-- ---- a block gathered

has_take : (k n : ℕ) (xs : List ℕ) → has k (take n xs) ≡ true → has k xs ≡ true
unfolding has
has_take k zero xs e = no_bool e
has_take k (suc n) [] e = no_bool e
has_take k (suc n) (x ∷ xs) e = or_mono (eqb x k) (has k (take n xs)) (has k xs) (has_take k n xs) e

pub first_start : (look : List ℕ → Got ℕ) (s : List ℕ) (from : ℕ) (block : List ℕ) → from ≤ length s → length block ≡ 64 → FirstOf look s from block from 0
first_start look s from block h l = record { on = omega arith; within = h; long = l; heads = omega arith; once = tt }

module _ (look : List ℕ → Got ℕ) (s : List ℕ) (from : ℕ) (block : List ℕ) (q i : ℕ) (f : FirstOf look s from block q i) where
  module _ (room : Looks look) (h : i < 64) (n : Next) (r : Peeked look (take (length s - q) (drop q s)) (Some n)) where
    here : look (drop q s) ≡ got n.key n.used
    here = rw tail_part at r.0

    pub first_room : q + n.used ≤ length s
    first_room = omega (arith, f.within, room (drop q s), ap (λ (x : Got ℕ). x.used) here, length-drop q s)

    pub first_more : has n.key block ≡ false → FirstOf look s from (set block i n.key) (q + n.used) (i + 1)
    first_more e =
        let a : from + (q - from) ≡ q = omega (arith, f.on) in
        let b : q - from + n.used ≡ q + n.used - from = omega (arith, f.on) in
        let t : take (i + 1) (set block i n.key) ≡ take i block ++ n.key ∷ [] = rw add-one (take-suc-set block i n.key (omega (arith, f.long))) in
        record {
          on = omega (arith, f.on);
          within = first_room;
          long = length-set block i n.key ∙ f.long;
          heads = rw (t, ← b) (heads_more look (take i block) (drop from s) (q - from) n.key n.used f.heads (rw (drop-drop (q - from) from s, a) here) r.1);
          once = rw t (once_snoc (take i block) n.key f.once (not_then (has n.key (take i block)) (has n.key block) (has_take n.key i block) e));
        }

-- ---- how far no id repeats

-- no key repeats before q, and these stood there
pub record Told (look : List ℕ → Got ℕ) (s : List ℕ) (q : ℕ) : Type 0 where
  pub within : q ≤ length s
  pub keys : List ℕ
  pub heads : Heads look s q keys
  pub clear : Clear look s q

pub told_start : (look : List ℕ → Got ℕ) (s : List ℕ) → Told look s 0
told_start look s = record { within = omega arith; keys = []; heads = refl; clear = clear_none look s }

-- none of these is among those
abbrev Apart : List ℕ → List ℕ → Type 0
Apart ns ks = (k : ℕ) → has k ns ≡ true → has k ks ≡ false

apart_more : (n : ℕ) (ns ks : List ℕ) → has n ns ≡ false → Apart (n ∷ ns) ks → Apart ns (ks ++ n ∷ [])
unfolding has
apart_more n ns ks o a k e = has_snoc k n ks ∙ has_not n k ks (ne_eqb n k λ z. no_bool (sym o ∙ ap (λ j. has j ns) z ∙ e)) (a k (rw e (or_right (eqb n k))))

has_first : (n : ℕ) (ns : List ℕ) → has n (n ∷ ns) ≡ true
unfolding has
has_first n ns = rw (eq-eqb n n refl)

module _ (look : List ℕ → Got ℕ) (s : List ℕ) where
  -- these keys head what comes next, one after the other: each is new
  told_on : (ns : List ℕ) (q r : ℕ) (t : Told look s q) → q ≤ r → r ≤ length s → Heads look (drop q s) (r - q) ns → Once ns → Apart ns t.keys → Told look s r
  told_on [] q r t l w h o a = let e : r ≡ q = omega arith in rw e t
  told_on (n ∷ ns) q r t l w (u, e, z, y, h) o a =
      let b : r - q - u ≡ r - (q + u) = omega arith in
      let more : Told look s (q + u) = record {
        within = omega arith;
        keys = t.keys ++ n ∷ [];
        heads = heads_more look t.keys s q n u t.heads e z;
        clear = each_on look (λ k ks. has k ks ≡ false) s t.keys q n u t.heads e t.clear (a n (has_first n ns));
      } in
      told_on ns (q + u) r more (omega arith) w (rw (drop-drop u q s, b) at h) o.1 (apart_more n ns t.keys o.0 a)

  -- a block that is gathered, and that what stood before missed
  pub told_more : (from to n : ℕ) (block : List ℕ) → Told look s from → FirstOf look s from block to n → Missed look s from block → Told look s to
  told_more from to n block t f m = told_on (take n block) from to t f.on f.within f.heads f.once λ k e. m t.keys t.heads k (has_take k n block e)
