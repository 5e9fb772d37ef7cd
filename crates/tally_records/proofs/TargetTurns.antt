-- The turns over the series' targets: what the code's answers on one target say.
use mathlib.Core.Path.{◌≡◌, refl, sym, ap, ◌∙◌, subst}
use Prim.Native.Nat.{ℕ, ◌+◌, ◌-◌, ◌^◌, ◌≤◌, ◌<◌}
use native.Mathlib.Omega.{arith}
use native.Mathlib.Nat.{add-zero, add_assoc}
use mathlib.Core.Bool.{Bool, true, false}
use mathlib.Core.List.{List, map}
use lib.ListN.{length, take, drop, length-drop}
use lib.Seq.{drop-drop}
use lib.Dec.{leb}
use borrow.Author.Tests.{leb-true, leb-false}
use Rattle.format.specs.Answer.{ok, refused, Got, got}
use Rattle.format.specs.Coding.{Bytes, oid_bytes}
use Rattle.format.specs.Table.{Form, pack, ended}
use Rattle.format.specs.Run.{Step, run}
use Rattle.format.specs.Sheet.{Val, tag_of_val, id_of_target, TG, TI, is, value_at, target_at}
use Rattle.format.proofs.Words.Answers.{after_ok}
use Rattle.format.proofs.Words.Bytes.{bytes_drop}
use Rattle.format.proofs.Sheets.Values.{mark_says}
use Rattle.coding.proofs.Rooms.{tail_part}
use Rattle.items.proofs.Tests.{bind_so, bind_not}
use Rattle.heads.specs.Meet.{peek}
use Rattle.heads.proofs.SheetRuns.{target_peek}
use Rattle.tally.specs.Pieces.{Piece}
use Rattle.tally.specs.Pieces as piece
use Rattle.tally.specs.declared.Sizes.{Sizes}
use Rattle.tally.specs.declared.stages.Stage.{Stage}
use Rattle.tally.specs.Pieces.{Walked}
use Rattle.tally.specs.Pieces.{Good, Bad}
use Rattle.tally.specs.Meet.{ended_by, no_sizes, pack_sizes, plus_sizes, total, weight_of_val, weight_of_target, later_by, Few, Small, Within}
use Rattle.tally.specs.Going.{Going}
use Rattle.tally.proofs.Walks.{few_more, going_start}
use Rattle.tally.proofs.Series.{after_not}
use Rattle.tally.proofs.Ends.{ended_says}
use Rattle.tally.proofs.Turns.{Reads, within_more, turn_done, turn_over, turn_bad, turn_more}
use Rattle.tally_records.specs.Meet.{IsTarget, records_walk, targets_walk}
use Rattle.tally_records.specs.Going.{TargetsGoing, TargetsFrom, After}
use Rattle.tally_records.proofs.Parts.{target_end, target_fault, TargetStood, target_stood}
use Rattle.tally_records.proofs.Runs.{ValsRun, vals_good, vals_bad, vals_used, slim_vals, slim_pack}

pub targets_start : (f : Form) (s : List ℕ) → TargetsGoing f s 0 no_sizes 0 0 18446744073709551615
unfolding targets_walk
targets_start f s = going_start _ _ _ _ _ _ _ s refl

-- ---- a target by its values

pub same_good : {a b : Sizes} {m n : ℕ} → a ≡ b → m ≡ n → Good a m ≡ Good b n
same_good e g = cc

-- a walk is over where no more of its kind stands, be it at the end of the bytes
pub records_over : {X : Type 0} {look : List ℕ → Got ℕ} {more : List ℕ → Bool} {weight : X → Sizes} {held : X → ℕ} {key : X → ℕ} {step : Step X} {whole : Walked} {s : List ℕ} {p : ℕ} {a : Sizes}
    {m top low : ℕ} → Going look more weight held key step whole s p a m top low → more (drop p s) ≡ false → (Good a m ≡ whole) × Within (Good a m) (length s)
records_over {whole = whole} {s = s} {p = p} {a = a} {m = m} g n = go (leb (length s) p) refl
  where
    go : (t : Bool) → leb (length s) p ≡ t → (Good a m ≡ whole) × Within (Good a m) (length s)
    go true e = turn_done g (leb-true _ _ e)
    go false e = turn_over g (leb-false _ _ e) n

module _ (f : Form) (seen u : List ℕ) (i : ℕ) (k : TargetStood f seen u i) where
  pub target_inside : (n q : ℕ) → run (is TI) tag_of_val (value_at pack f) (drop 10 u) ≡ refused n q → target_at f seen u ≡ refused n (10 + q)
  target_inside n q r = k.rest ∙ bind_not _ _ n (10 + q) (after_not 10 _ n q r)

  module _ (vs : Got (List Val)) (r : run (is TI) tag_of_val (value_at pack f) (drop 10 u) ≡ ok vs) where
    target_ended : target_at f seen u ≡ target_end f i vs
    target_ended = k.rest ∙ bind_so _ (target_end f i) vs (after_ok 10 _ vs r)

    pub target_refused : {x : ℕ} → ended f (map tag_of_val vs.val) ≡ refused x 0 → target_at f seen u ≡ refused x 0
    target_refused {x = x} z = target_ended ∙ bind_not _ _ x 0 z

    pub target_good : ended f (map tag_of_val vs.val) ≡ ok tt → target_at f seen u ≡ ok (got (record { id = i; vals = vs.val }) (10 + vs.used))
    target_good z = target_ended ∙ bind_so _ _ tt z

-- ---- the turn

module _ (f : Form) {s : List ℕ} {q : Stage} (g : TargetsFrom f s q) (h : q.at < length s) (o : is TG (drop q.at s) ≡ true) {a : Piece} (ea : IsTarget s q.at q.top q.low a) where
  pub head_fault : {n : ℕ} {r : Walked} → a ≡ piece.Fault n → r ≡ Bad n q.at → (r ≡ targets_walk f s) × Within r (length s)
  head_fault {n = n} t e =
      turn_bad g h o n 0 (e ∙ ap (Bad n) (sym (add-zero q.at))) (target_fault f g.seen (drop q.at s) n (sym t ∙ ea g.seen g.past)) (omega arith)

-- a target that the code has found where the walk goes on, in a series of no more bytes than a sheet's
pub record TargetAt (f : Form) (s : List ℕ) (q : Stage) (id from size small : ℕ) : Type 0 where
  pub going : TargetsFrom f s q
  pub here : q.at < length s
  pub more : is TG (drop q.at s) ≡ true
  pub told : IsTarget s q.at q.top q.low (piece.Whole id from size small)
  pub bytes : Bytes s
  pub most : length s ≤ 65536

module _ {f : Form} {s : List ℕ} {q : Stage} {id from size small : ℕ} (i : TargetAt f s q id from size small) where
  abbrev here : List ℕ
  here = drop q.at s

  stood : TargetStood f i.going.seen here id
  stood = target_stood f i.going.seen here id from size small (i.told i.going.seen i.going.past)

  pub target_room : (q.at + 10 ≤ length s) × (id < 2 ^ 63)
  target_room = (omega (arith, stood.ten, length-drop q.at s), stood.low)

  -- its values, as the code lends them and as document 01 has them
  abbrev pub lent : List ℕ
  lent = take (length s - (q.at + 10)) (drop (q.at + 10) s)

  lent_is : lent ≡ drop 10 here
  lent_is = tail_part (q.at + 10) s ∙ sym (drop-drop 10 q.at s)

  pub lent_long : length lent + (q.at + 10) ≡ length s
  lent_long = omega (arith, ap length lent_is, length-drop 10 here, length-drop q.at s, stood.ten)

  -- they are over where another target begins
  pub lent_over : (n : ℕ) → is TG (drop (q.at + 10 + n) s) ≡ true → is TI (drop n lent) ≡ false
  lent_over n h = ap (λ u. is TI (drop n u)) (tail_part (q.at + 10) s) ∙ ap (is TI) (drop-drop n (q.at + 10) s ∙ mark_says TG (drop (q.at + 10 + n) s) h)

  pub lent_small : length lent ≤ 65536
  lent_small = omega (arith, lent_long, i.most)

  -- y is the code's answer on them
  module _ {y : Walked} (ey : (y ≡ records_walk pack f lent) × Within y (length lent)) where
    pub vals_within : Within y 65536 × (q.at + 10 ≤ 65536)
    vals_within = (within_more y (length lent) 65536 lent_small ey.1, omega (arith, lent_long, i.most))

    pub vals_fault : {n j : ℕ} {r : Walked} → y ≡ Bad n j → r ≡ later_by (q.at + 10) y → (r ≡ targets_walk f s) × Within r (length s)
    vals_fault {n = n} {j = j} t e =
        let x : Bad n j ≡ records_walk pack f (drop 10 here) = rw lent_is at (sym t ∙ ey.0) in
        let l : j ≤ length lent = subst (λ v. Within v (length lent)) t ey.1 in
        turn_bad i.going i.here i.more n (10 + j) (e ∙ ap (later_by (q.at + 10)) t ∙ ap (Bad n) (add_assoc q.at 10 j))
        (target_inside f i.going.seen here id stood n j (vals_bad f _ n j x)) (omega (arith, l, lent_long))

    module _ {z : Sizes} {m : ℕ} (ty : y ≡ Good z m) where
      ran : ValsRun f (drop 10 here) z m
      ran = vals_good f _ z m (rw lent_is at (sym ty ∙ ey.0))

      slim : Few z z.sheet
      slim = subst (λ a. Few a a.sheet) ran.weighs (slim_vals ran.vs.val)

      used : (ran.vs.used ≡ (total (weight_of_val pack) ran.vs.val).sheet) × (ran.vs.used ≤ length (drop 10 here))
      used = vals_used f (drop 10 here) ran.vs (bytes_drop 10 here (bytes_drop q.at s i.bytes)) ran.ran

      took : ran.vs.used ≡ z.sheet
      took = used.0 ∙ ap (λ (a : Sizes). a.sheet) ran.weighs

      next_room : q.at + 10 + z.sheet ≤ length s
      next_room = omega (arith, took, used.1, lent_long, ap length lent_is)

      pub vals_small : Small z
      vals_small = few_more z z.sheet 65536 (omega (arith, next_room, i.most)) slim

      -- number: with what it is refused at its end, if not 0
      module _ {number : ℕ} (says : number ≡ ended_by f m) where
        pub not_ended : {r : Walked} → (number ≡ 0 → ⊥) → r ≡ Bad number q.at → (r ≡ targets_walk f s) × Within r (length s)
        not_ended tx e =
            turn_bad i.going i.here i.more number 0 (e ∙ ap (Bad number) (sym (add-zero q.at)))
            (target_refused f i.going.seen here id stood ran.vs ran.ran ((ended_says f _ says ran.holds).1 tx)) (omega arith)

        -- the target, and what a look at it reads
        it_reads : number ≡ 0 → target_at f i.going.seen here ≡ ok (got (record { id = id; vals = ran.vs.val }) (10 + z.sheet))
        it_reads tx =
            target_good f i.going.seen here id stood ran.vs ran.ran ((ended_says f _ says ran.holds).0 tx)
            ∙ ap (λ n. ok (got (record { id = id; vals = ran.vs.val }) (10 + n))) took

        pub target_looks : number ≡ 0 → peek true true false here ≡ got id (10 + z.sheet)
        unfolding peek
        target_looks tx = target_peek f false i.going.seen here _ (it_reads tx)

      -- w is how many bytes its id takes in a packet, a its sizes
      module _ {w : ℕ} (ew : (w ≡ length (oid_bytes id)) × (w ≤ 9)) {a : Sizes} (ea : a ≡ pack_sizes w z) where
        -- what `after` asks for, and what it hands back
        pub target_asks : Small q.sizes × Small a × (q.at + a.sheet ≤ 65536)
        target_asks = (
          few_more q.sizes q.at 65536 (omega (arith, i.here, i.most)) i.going.few,
          rw ea (few_more (pack_sizes w z) (10 + z.sheet) 65536 (omega (arith, next_room, i.most)) (slim_pack w z ew.1 slim)),
          rw ea (omega (arith, next_room, i.most)),
        )

        pub target_less : {r : Stage} → After q id a 0 r → length s - r.at < length s - q.at
        target_less h = omega (arith, h.at_is, ap (λ (x : Sizes). x.sheet) ea, next_room)

        pub target_more : {number : ℕ} → number ≡ ended_by f m → number ≡ 0 → {r : Stage} → After q id a 0 r → TargetsFrom f s r
        target_more says tx h =
            let read : Reads weight_of_target (λ t. 0) id_of_target (target_at f i.going.seen here) id (10 + z.sheet) (pack_sizes w z) 0 = record {
              it = record { id = id; vals = ran.vs.val };
              reads = it_reads says tx;
              key_is = refl;
              weighs = ap (λ n. pack_sizes n (total (weight_of_val pack) ran.vs.val)) (sym ew.0) ∙ ap (pack_sizes w) ran.weighs;
              holds = refl;
              few = slim_pack w z ew.1 slim;
            } in
            let at = h.at_is ∙ ap (λ (x : Sizes). q.at + x.sheet) ea in
            rw at (turn_more i.going i.here i.more read (target_looks says tx) (omega arith) (q.at + (10 + z.sheet)) refl (omega (arith, next_room)) (h.sizes_are ∙ ap (plus_sizes q.sizes) ea) h.held_is h.over h.under)
