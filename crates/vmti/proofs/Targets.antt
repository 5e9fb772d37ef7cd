-- A target added or dropped by the calls, from their contracts and the demands of the definitions.
use mathlib.Core.Path.{◌≡◌, refl, sym, ap, ◌∙◌, subst}
use mathlib.Core.Logic.{◌⊎◌, inl, inr, ⊎_elim}
use Prim.Native.Nat.{ℕ}
use mathlib.Core.List.{List, [], ◌∷◌, ◌++◌}
use lib.ListN.{length}
use Rattle.format.specs.Answer.{Ans, ok, refused}
use Rattle.format.specs.Coding.{Bytes}
use Rattle.format.specs.Table.{Form}
use Rattle.format.specs.Packet.{Packet}
use Rattle.format.specs.Room.{leaves}
use Rattle.format.specs.Sheet.{Target, content, target_bytes, sheet_bytes, unsheet}
use Rattle.format.specs.Calls.{read, normalise}
use Rattle.format.specs.Edit.{the_set}
use Rattle.format.specs.Targets.{TargetChange, added, dropped, targets_in, add_target, drop_target}
use Rattle.format.specs.Valid.{Lies}
use Rattle.format.specs.Demands.Targets.{TargetKept, TargetChanged, recounted_sheet, AddDemand, DropDemand}
use Rattle.format.proofs.Words.Answers.{ok_inj}
use Rattle.format.proofs.Reading.Packets.{lies_parses}
use Rattle.format.proofs.Sheets.Sheets.{sheet_back}
use Rattle.format.proofs.Sheets.Content.{content_valid}
use Rattle.format.proofs.Demands.Accepted.{read_is}
use Rattle.format.proofs.Demands.Demand1.{numbered}
use Rattle.format.proofs.Demands.Targets.{add_demand, drop_demand, from_other}
use Rattle.answers.specs.Meet.{Answer, left_of}
use Rattle.answers.specs.Calls.{Reads, Adds, Drops}
use Rattle.answers.specs.Given.{Given, Accepted, written}
use Rattle.answers.proofs.Given.{by_room, given, refusing, accepted_only, wrote, one_left}
use Rattle.vmti.specs.Targets.{TargetMoved, Addable, Adding, TargetAdded, Dropping, OtherAdded, TargetDemands}

-- what is to be written was not refused
given_accepted : (b lent : List ℕ) (a : Answer) (left : List ℕ) → Given b lent a left → Accepted a
given_accepted b lent a left g =
    by_room (Accepted a) (length b) (length lent)
    (λ l. inl (ap (λ x. x.number) (g.with_room l).0))
    (λ l. inr (ap (λ x. x.number) (g.without l).0))

-- what the definitions promise of the bytes b, of what was written
module _ (f : Form) (c : TargetChange) (packet b : List ℕ) (a : Answer) (left : List ℕ) (s : written a left ≡ b) where
  target_moved : TargetChanged f c packet b → TargetKept f c packet b → TargetMoved f c packet a left
  target_moved k m = record {
    changed = record {
      sheet = k.sheet;
      old = k.old;
      old_back = k.old_back;
      new = ap (read f) s ∙ k.new;
      afresh = λ n. k.afresh n ∙ ap ok (sym s);
    };
    kept = subst (TargetKept f c packet) (sym s) m;
    afresh = λ other d after ed zd sd out g then eg.
        let (n, nq, ns) = wrote other after d (length packet) (normalise f packet) (numbered f packet the_set []).normalise_answers ed zd in
        given out then g _ (eg ∙ ap (leaves out) (k.afresh (nq ∙ ap ok (sym ns ∙ sd)) ∙ ap ok (sym s)));
  }

-- the sheet that the old packet says is its tree's
sheet_of_lem : (f : Form) (c : TargetChange) (packet b : List ℕ) (p : Packet) → Lies f packet p → (k : TargetChanged f c packet b) → content p ≡ k.sheet
sheet_of_lem f c packet b p l k =
    let e : sheet_bytes (content p) ≡ sheet_bytes k.sheet = ok_inj _ _ (sym (read_is f packet p (lies_parses f packet p l)) ∙ k.old) in
    ok_inj _ _ (sym (sheet_back (content p) (content_valid p l.valid)) ∙ ap unsheet e ∙ k.old_back)

-- ---- an addition

-- a drop that gives d, and what is then read
drop_read : (f : Form) (packet : List ℕ) (id : ℕ) (d sheet : List ℕ) → drop_target f packet id ≡ ok d → read f d ≡ ok sheet
    → (out : List ℕ) (b : Answer) (after : List ℕ) → Drops f packet id out b after
    → Accepted b × (b.number ≡ 0 → (other : List ℕ) (g : Answer) (then : List ℕ) → Reads f (written b after) other g then → Given sheet other g then)
drop_read f packet id d sheet now says out b after eb = (
  given_accepted d out b after (given out after b d (eb ∙ ap (leaves out) now)),
  λ z other g then eg.
      let (n, nq, ns) = wrote out after b (length packet) (drop_target f packet id) ((numbered f packet the_set []).drop_answers id) eb z in
      given other then g sheet (eg ∙ ap (λ x. leaves other (read f x)) (ns ∙ ok_inj n d (sym nq ∙ now)) ∙ ap (leaves other) says),
)

module _ (f : Form) (packet records : List ℕ) (hs : Bytes packet) (hr : Bytes records) where
  add_defined : AddDemand f packet records
  add_defined = add_demand f packet records hs hr

  addable : (b : List ℕ) → add_target f packet records ≡ ok b → (t : Target) × Addable f packet records t b
  addable b q = let (t, z, v, k, l) = (add_defined.accepted b).0 q in (t, record { bytes = z; valid = v; kept = k; small = l })

  module _ (b : List ℕ) (q : add_target f packet records ≡ ok b) (t : Target) (k : Addable f packet records t b) (a : Answer) (left : List ℕ) (s : written a left ≡ b) where
    with_target : TargetMoved f (added t) packet a left
    with_target = target_moved f (added t) packet b a left s (add_defined.changed b t k.bytes k.valid q) k.kept

    dropped_again : (d : List ℕ) × (drop_target f (written a left) t.id ≡ ok d) × (read f d ≡ ok (sheet_bytes (recounted_sheet with_target.changed.sheet)))
    dropped_again =
        let p = k.kept.packet in
        let (d, now, says) = add_defined.back b t p k.bytes k.valid (lies_parses f packet p k.kept.lies) q in (
          d,
          ap (λ x. drop_target f x t.id) s ∙ now,
          says ∙ ap (λ x. ok (sheet_bytes (recounted_sheet x))) (sheet_of_lem f (added t) packet (written a left) p k.kept.lies with_target.changed),
        )

  module _ (lent : List ℕ) (a : Answer) (left : List ℕ) (e : Adds f packet records lent a left) where
    adding : Adding f packet records lent a left
    adding = record {
      allowed = λ t b k. given lent left a b (e ∙ ap (leaves lent) ((add_defined.accepted b).1 (t, k.bytes, k.valid, k.kept, k.small)));
      only = λ y.
          let (b, q) = accepted_only lent left a (length packet) (add_target f packet records) ((numbered f packet the_set []).add_answers records) e y in
          let (t, k) = addable b q in
          (t, b, k);
      refusing = λ n p y. refusing lent left a (add_target f packet records) e n p ((add_defined.refusal n p).1 y);
    }

    target_added : a.number ≡ 0 → TargetAdded f packet records a left
    target_added z =
        let (b, q, s) = wrote lent left a (length packet) (add_target f packet records) ((numbered f packet the_set []).add_answers records) e z in
        let (t, k) = addable b q in
        let (d, now, says) = dropped_again b q t k a left s in
        record {
          target = t;
          bytes = k.bytes;
          valid = k.valid;
          moved = with_target b q t k a left s;
          back = drop_read f (written a left) t.id d _ now says;
        }

-- ---- a drop

module _ (f : Form) (packet : List ℕ) (id : ℕ) (hs : Bytes packet) where
  drop_defined : DropDemand f packet id
  drop_defined = drop_demand f packet id hs

  module _ (lent : List ℕ) (a : Answer) (left : List ℕ) (e : Drops f packet id lent a left) where
    dropping : Dropping f packet id lent a left
    dropping = record {
      allowed = λ b k. given lent left a b (e ∙ ap (leaves lent) ((drop_defined.accepted b).1 k));
      only = λ y.
          let (b, q) = accepted_only lent left a (length packet) (drop_target f packet id) ((numbered f packet the_set []).drop_answers id) e y in
          (b, (drop_defined.accepted b).0 q);
      refusing = λ n p y. refusing lent left a (drop_target f packet id) e n p ((drop_defined.refusal n p).1 y);
    }

    target_dropped : a.number ≡ 0 → TargetMoved f (dropped id) packet a left
    target_dropped z =
        let (b, q, s) = wrote lent left a (length packet) (drop_target f packet id) ((numbered f packet the_set []).drop_answers id) e z in
        target_moved f (dropped id) packet b a left s (drop_defined.changed b q) ((drop_defined.accepted b).0 q)

-- ---- a target read out of another packet

module _ (lent : List ℕ) (a : Answer) (left : List ℕ) where
  goes : (x : Ans (List ℕ)) → left_of a left ≡ leaves lent x → ((n p : ℕ) → x ≡ refused n p → (p ≡ 0) × ((n ≡ 10) ⊎ (n ≡ 1)))
      → Accepted a ⊎ (((a.number ≡ 10) ⊎ (a.number ≡ 1)) × (a.place ≡ 0) × (left ≡ lent))
  goes (ok b) e h = inl (given_accepted b lent a left (given lent left a b e))
  goes (refused n p) e h =
      let (zero, number) = h n p refl in
      let (k, s) = refusing lent left a (refused n p) e n p refl in
      let en : a.number ≡ n = ap (λ x. x.number) k in
      inr (⊎_elim (λ z. inl (en ∙ z)) (λ z. inr (en ∙ z)) number, ap (λ x. x.place) k ∙ zero, s)

  other_added : (f : Form) (packet other : List ℕ) (p q : Packet) → Bytes packet → Bytes other → Lies f packet p → Lies f other q
      → (before : List Target) (t : Target) (after : List Target) → targets_in (content q).parts ≡ before ++ (t ∷ after)
      → Adds f packet (target_bytes t) lent a left → OtherAdded f p t lent a left
  other_added f packet other p q hs ho lp lq before t after at e =
      let k = from_other f packet other p q hs ho (lies_parses f packet p lp) (lies_parses f other q lq) before t after at in
      let x = add_target f packet (target_bytes t) in
      record {
        goes = goes x e k.refused_only;
        very_items = λ z.
            let (b, bq, s) = wrote lent left a (length packet) x ((numbered f packet the_set []).add_answers (target_bytes t)) e z in
            let (r, last) = k.very_items b bq in
            (last, λ out g then eg. given out then g _ (eg ∙ ap (λ y. leaves out (read f y)) s ∙ ap (leaves out) r));
      }

pub target_demands : TargetDemands
target_demands = record {
  adding = λ f packet records lent a left hs hr e. adding f packet records hs hr lent a left e;
  added = λ f packet records lent a left hs hr e z. target_added f packet records hs hr lent a left e z;
  dropping = λ f packet id lent a left hs e. dropping f packet id hs lent a left e;
  dropped = λ f packet id lent a left hs e z. target_dropped f packet id hs lent a left e z;
  from_other = λ f packet other p q hs ho lp lq before t after at lent a left e. other_added lent a left f packet other p q hs ho lp lq before t after at e;
}

-- ---- nothing else is so answered

module _ (f : Form) (packet lent : List ℕ) (a d : Answer) (left then : List ℕ) (hs : Bytes packet) where
  pub one_adding : (records : List ℕ) → Bytes records → Adding f packet records lent a left → Adding f packet records lent d then → (a ≡ d) × (left ≡ then)
  one_adding records hr r s =
      let k = add_demand f packet records hs hr in
      one_left (add_target f packet records) lent a d left then
      (λ b e. let (t, m) = addable f packet records hs hr b e in (r.allowed t b m, s.allowed t b m))
      (λ n p q. r.refusing n p ((k.refusal n p).0 q))
      (λ n p q. s.refusing n p ((k.refusal n p).0 q))

  pub one_dropping : (id : ℕ) → Dropping f packet id lent a left → Dropping f packet id lent d then → (a ≡ d) × (left ≡ then)
  one_dropping id r s =
      let k = drop_demand f packet id hs in
      one_left (drop_target f packet id) lent a d left then
      (λ b e. let m = (k.accepted b).0 e in (r.allowed b m, s.allowed b m))
      (λ n p q. r.refusing n p ((k.refusal n p).0 q))
      (λ n p q. s.refusing n p ((k.refusal n p).0 q))
