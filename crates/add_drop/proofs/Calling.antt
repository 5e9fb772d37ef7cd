-- The calls that add and drop a target: the packet's own refusal, that of the records, and the call at the set of a packet that was checked.
use mathlib.Core.Path.{◌≡◌, refl, sym, ap, ◌∙◌, subst}
use Prim.Native.Nat.{ℕ}
use mathlib.Core.List.{List, map}
use Rattle.std.specs.Prelude.{Result, Ok, Err}
use Rattle.format.specs.Answer.{Ans, ok, refused, ◌>>=◌}
use Rattle.format.specs.Coding.{Bytes}
use Rattle.format.specs.Table.{Form}
use Rattle.format.specs.Packet.{Entry, Packet, closed}
use Rattle.format.specs.Read.{unsealed, parse}
use Rattle.format.specs.Sheet.{Sheet, Target, part_of, content}
use Rattle.format.specs.Calls.{packed}
use Rattle.format.specs.Room.{leaves}
use Rattle.format.specs.Targets.{TargetChange, added, dropped, change_entries, change_packet, new_target, at_start, target_rules, change_targets, add_target, drop_target}
use Rattle.items.proofs.Tests.{bind_so, bind_not}
use Rattle.coding.specs.declared.refusals.Fault.{Fault}
use Rattle.coding.specs.declared.refusals.Refusal.{Refusal}
use Rattle.coding.specs.Refusals.{number, placed}
use Rattle.coding.proofs.Tried.{placed_ok, placed_err}
use Rattle.tally.specs.declared.Sizes.{Sizes}
use Rattle.tally.proofs.Parsed.{Parsed}
use Rattle.check_packet.specs.Checks.{Checked, Fine, Wrong}
use Rattle.check_packet.specs.Meet.{checked_of}
use Rattle.check_packet.proofs.Opened.{fine, opened, lent_set, lent_is}
use Rattle.check_packet.proofs.Parsing.{wrong_parsed}
use Rattle.find.proofs.Callers.{set_at, entries_are}
use Rattle.check_target.specs.declared.Told.{Told}
use Rattle.check_target.specs.Meet.{target_told, ToldAs}
use Rattle.answers.specs.Meet.{Answer, left_of, answer_of, refusal_of}
use Rattle.answers.proofs.Leaving.{left_refused}
use Rattle.add_drop.specs.Meet.{set_changed}

-- ---- a packet that is refused: whatever comes after it is not asked

module _ (f : Form) (s : List ℕ) {c : Checked} (ec : c ≡ checked_of (parse f s)) (lent : List ℕ) {n k : ℕ} (t : c ≡ Wrong n k) {r : Answer} (er : r ≡ refusal_of c) where
  unread : (next : Packet → Ans (List ℕ)) → left_of r lent ≡ leaves lent (parse f s >>= next)
  unread next = left_refused lent (bind_not (parse f s) next n k (wrong_parsed f s n k (sym t ∙ ec))) (er ∙ ap refusal_of t)

  pub add_unread : (records : List ℕ) → left_of r lent ≡ leaves lent (add_target f s records)
  unfolding add_target
  add_unread records = unread _

  pub drop_unread : (i : ℕ) → left_of r lent ≡ leaves lent (drop_target f s i)
  unfolding drop_target
  drop_unread i = unread _

-- ---- a packet that is accepted

abbrev sheet_from : Form → List Entry → Sheet
sheet_from f es = record { form = f; parts = map part_of (unsealed es) }

change_at_set : (f : Form) (s : List ℕ) (p : Packet) (k : Parsed f s p) (c : TargetChange) → change_targets c p ≡ set_changed f c (set_at f s p k)
unfolding change_targets change_packet content set_changed
change_at_set f s p k c =
    ap (λ q. target_rules c (content q) >>= λ _. packed (change_packet c q)) k.packet_is
    ∙ ap (λ es. target_rules c (sheet_from f es) >>= λ _. packed (closed f (change_entries c (unsealed es)))) (sym (entries_are f s p k))

start_ok : {A : Type 0} {m : Ans A} {a : A} → m ≡ ok a → at_start m ≡ ok a
unfolding at_start
start_ok e = ap at_start e

start_not : {A : Type 0} {m : Ans A} {n p : ℕ} → m ≡ refused n p → at_start m ≡ refused n 0
unfolding at_start
start_not e = ap at_start e

module _ (f : Form) (s : List ℕ) {c : Checked} (ec : c ≡ checked_of (parse f s)) (b : Bytes s) {a : Sizes} {k : ℕ} (t : c ≡ Fine a k) where
  abbrev packet : Packet
  packet = (fine f s ec b t).0

  parsed : parse f s ≡ ok packet
  parsed = (fine f s ec b t).1

  change_is : (d : TargetChange) → change_targets d packet ≡ set_changed f d (lent_set f s ec b t)
  change_is d = rw (lent_is f s ec b t) (change_at_set f s packet (opened f s ec b t) d)

  pub drop_is : (i : ℕ) → drop_target f s i ≡ set_changed f (dropped i) (lent_set f s ec b t)
  unfolding drop_target
  drop_is i = bind_so _ _ packet parsed ∙ change_is (dropped i)

  module _ (records : List ℕ) where
    pub add_is : (g : Target) → new_target f records ≡ ok g → add_target f s records ≡ set_changed f (added g) (lent_set f s ec b t)
    unfolding add_target
    add_is g e = bind_so _ _ packet parsed ∙ bind_so _ _ g (start_ok e) ∙ change_is (added g)

    -- the records are refused at 0
    pub add_wrong : (x : Refusal) → ToldAs (new_target f records) (target_told (Err x)) → (lent : List ℕ) {r : Answer} → r ≡ answer_of (number x) 0 → left_of r lent ≡ leaves lent (add_target f s records)
    add_wrong x h lent {r} er = go (new_target f records) refl h
      where
        go : (m : Ans Target) → new_target f records ≡ m → ToldAs m (target_told (Err x)) → left_of r lent ≡ leaves lent (add_target f s records)
        go (ok g) e w = absurd w
        go (refused n p) e w = unfold add_target in left_refused lent (bind_so _ _ packet parsed ∙ bind_not _ _ n 0 (start_not e)) (er ∙ ap (λ y. answer_of y 0) w)

    -- what the check of the records said, x, as a `?` finds it
    module _ (x : Result Told Refusal) (ex : ToldAs (new_target f records) (target_told x)) where
      pub records_wrong : {e : Fault} → Err e ≡ placed 0 x → (lent : List ℕ) {r : Answer} → r ≡ answer_of (number e.refusal) e.place → left_of r lent ≡ leaves lent (add_target f s records)
      records_wrong h lent er =
          let (y, ey, ee) = placed_err 0 x (sym h) in
          add_wrong y (subst (λ r. ToldAs (new_target f records) (target_told r)) ey ex) lent (er ∙ ap (λ (d : Fault). answer_of (number d.refusal) d.place) (sym ee))

      pub records_fine : {d : Told} → Ok d ≡ placed 0 x → ToldAs (new_target f records) (target_told (Ok d))
      records_fine h = subst (λ r. ToldAs (new_target f records) (target_told r)) (placed_ok 0 x (sym h)) ex
