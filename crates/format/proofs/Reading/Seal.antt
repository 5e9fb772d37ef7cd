-- The checksum item: in a set that was read it stands at the very end, in standalone, and nothing else has tag 1.
use mathlib.Core.Path.{◌≡◌, refl, sym, ap, ◌∙◌}
use Prim.Native.Nat.{ℕ}
use native.Mathlib.Omega.{arith}
use mathlib.Core.Bool.{Bool, true, false, ◌&&◌}
use mathlib.Core.List.{List, [], ◌∷◌, ◌++◌, map}
use mathlib.Core.Logic.{◌⊎◌, inl, inr}
use lib.ListN.{length, length-append}
use lib.Dec.{leb, eqb}
use borrow.Author.Tests.{eqb-true, leb-true}
use Rattle.format.specs.Coding.{oid_bytes, digits, len_bytes}
use Rattle.format.specs.Lists.{none?, has, take_out, flat_all}
use Rattle.format.specs.Table.{Form, embedded, standalone, set, is_alone, rules, find, rule_of, may_stand, may_begin, sized}
use Rattle.format.specs.Packet.{Item, Entry, plain, series, tag_of_entry, flat_item, flat_entry}
use Rattle.format.specs.Read.{unsealed}
use Rattle.format.specs.Rows.{seal_item}
use Rattle.format.specs.Valid.{All, Begins, EntryValid}
use Rattle.format.proofs.Words.Answers.{no_bool, and_both, or_right}
use Rattle.format.proofs.Words.Keys.{has_not}
use Rattle.format.proofs.Table.Tags.{seal_stands, begins_two}
use Rattle.format.proofs.Reading.Runs.{Along}
use Rattle.format.proofs.Reading.Items.{ItemRead}
use Rattle.format.proofs.Reading.Entries.{EntryRead, entry_stands, read_some, entry_valid}

-- each entry was read where it stands
abbrev pub SetRead : Form → List ℕ → List Entry → Type 0
SetRead f seen es = Along tag_of_entry flat_entry (λ seen e t. EntryRead f seen e (none? t)) seen es []

abbrev NoSeal : Entry → Type 0
NoSeal e = eqb (tag_of_entry e) 1 ≡ false

-- what was read: all but the checksum, and then perhaps that
pub record Split (f : Form) (es : List Entry) : Type 0 where
  pub valid : All (EntryValid f) (unsealed es)
  pub no_seal : All NoSeal (unsealed es)
  pub shape : (es ≡ unsealed es) ⊎ ((is_alone f ≡ true) × (c : List ℕ) × (length c ≡ 2) × (es ≡ unsealed es ++ (plain (seal_item c) ∷ [])))

-- two bytes under a length of one
seal_is : (i : Item) → i.tag ≡ 1 → i.width ≡ 1 → plain i ≡ plain (seal_item i.value)
unfolding seal_item
seal_is i a b j = plain (record { tag = a j; width = b j; value = i.value })

seal_size_lem : (v : List ℕ) → sized (rule_of set 1) (length v) ≡ true → length v ≡ 2
unfolding rule_of rules find sized
seal_size_lem v h =
    let (a, b) = and_both (leb 2 (length v) && leb (length v) 2) _ h in
    let (p, q) = and_both (leb 2 (length v)) (leb (length v) 2) a in
    omega (arith, leb-true 2 (length v) p, leb-true (length v) 2 q)

none_after : (t : List ℕ) → none? t ≡ true → length t ≡ 0
none_after [] e = refl
none_after (x ∷ t) e = no_bool e

nothing_after : (f : Form) (seen : List ℕ) (es : List Entry) → none? (flat_all flat_entry es ++ []) ≡ true → SetRead f seen es → es ≡ []
unfolding flat_all
nothing_after f seen [] n h = refl
nothing_after f seen (e ∷ es) n h =
    let l = none_after ((flat_entry e ++ flat_all flat_entry es) ++ []) n in
    absurd (omega (arith, simp length-append at l, read_some f seen e _ h.0))

unseal_more : (e : Entry) (es : List Entry) → NoSeal e → unsealed (e ∷ es) ≡ e ∷ unsealed es
unfolding unsealed take_out
unseal_more e es z = rw (z, take_out)

unseal_here : (i : Item) (es : List Entry) → eqb i.tag 1 ≡ true → unsealed (plain i ∷ es) ≡ es
unfolding unsealed take_out
unseal_here i es z = rw (z, take_out)

split_more : (f : Form) (seen : List ℕ) (e : Entry) (es : List Entry) (last : Bool) → NoSeal e → EntryRead f seen e last → Split f es → Split f (e ∷ es)
split_more f seen e es last z h k = record {
  valid = rw (unseal_more e es z) (entry_valid f seen e last z h, k.valid);
  no_seal = rw (unseal_more e es z) (z, k.no_seal);
  shape = rw (unseal_more e es z) (go k.shape);
}
  where
    go : (es ≡ unsealed es) ⊎ ((is_alone f ≡ true) × (c : List ℕ) × (length c ≡ 2) × (es ≡ unsealed es ++ (plain (seal_item c) ∷ [])))
        → (e ∷ es ≡ e ∷ unsealed es) ⊎ ((is_alone f ≡ true) × (c : List ℕ) × (length c ≡ 2) × (e ∷ es ≡ e ∷ unsealed es ++ (plain (seal_item c) ∷ [])))
    go (inl q) = inl (ap (λ x. e ∷ x) q)
    go (inr (a, c, l, q)) = inr (a, c, l, ap (λ x. e ∷ x) q)

split_here : (f : Form) (seen : List ℕ) (i : Item) (es : List Entry) → eqb i.tag 1 ≡ true → SetRead f seen (plain i ∷ es) → Split f (plain i ∷ es)
split_here f seen i es z h =
    let k : ItemRead set f seen i (none? (flat_all flat_entry es ++ [])) = h.0.0 in
    let (alone, last) = seal_stands f i.tag _ z k.ruled.stands.may_stand in
    let n : es ≡ [] = nothing_after f (i.tag ∷ seen) es last h.1 in
    let one : i.tag ≡ 1 = eqb-true i.tag 1 z in
    let u : unsealed (plain i ∷ es) ≡ [] = unseal_here i es z ∙ n in
    record {
      valid = rw u tt;
      no_seal = rw u tt;
      shape = rw u (inr (
        alone,
        i.value,
        seal_size_lem i.value (rw one at k.ruled.valued.length_allowed),
        rw n (ap (λ x. x ∷ []) (seal_is i one (eqb-true i.width 1 (rw z at k.brief)))),
      ));
    }

pub split : (f : Form) (seen : List ℕ) (es : List Entry) → SetRead f seen es → Split f es
unfolding unsealed take_out
split f seen [] h = record { valid = tt; no_seal = tt; shape = inl refl }
split f seen (plain i ∷ es) h = go (split f (i.tag ∷ seen) es h.1) (eqb i.tag 1) refl
  where
    go : Split f es → (b : Bool) → eqb i.tag 1 ≡ b → Split f (plain i ∷ es)
    go k false z = split_more f seen (plain i) es _ z h.0 k
    go k true z = split_here f seen i es z h
split f seen (series w ps ∷ es) h = split_more f seen (series w ps) es _ refl h.0 (split f (101 ∷ seen) es h.1)

-- ---- what each form makes of it

no_one : (es : List Entry) → All NoSeal es → has 1 (map tag_of_entry es) ≡ false
no_one [] h = unfold has in refl
no_one (e ∷ es) h = has_not (tag_of_entry e) 1 (map tag_of_entry es) h.0 (no_one es h.1)

pub split_embedded : (es : List Entry) → Split embedded es → es ≡ unsealed es
split_embedded es k = go k.shape
  where
    go : (es ≡ unsealed es) ⊎ ((is_alone embedded ≡ true) × (c : List ℕ) × (length c ≡ 2) × (es ≡ unsealed es ++ (plain (seal_item c) ∷ []))) → es ≡ unsealed es
    go (inl q) = q
    go (inr (a, c, l, q)) = no_bool a

pub split_alone : {X : Type 0} (es : List Entry) → Split standalone es → has 1 (map tag_of_entry es) ≡ true
    → ((c : List ℕ) → length c ≡ 2 → es ≡ unsealed es ++ (plain (seal_item c) ∷ []) → X) → X
split_alone {X = X} es k o g = go k.shape
  where
    go : (es ≡ unsealed es) ⊎ ((is_alone standalone ≡ true) × (c : List ℕ) × (length c ≡ 2) × (es ≡ unsealed es ++ (plain (seal_item c) ∷ []))) → X
    go (inl q) = no_bool (sym (rw (← q) at (no_one (unsealed es) k.no_seal)) ∙ o)
    go (inr (a, c, l, q)) = g c l q

-- a standalone set begins with tag 2
pub begun_alone : (es : List Entry) → SetRead standalone [] es → has 1 (map tag_of_entry es) ≡ true → Begins standalone (map tag_of_entry (unsealed es))
begun_alone [] h o = unfold has in no_bool o
begun_alone (e ∷ es) h o =
    let two : tag_of_entry e ≡ 2 = begins_two (tag_of_entry e) (entry_stands standalone [] e _ h.0).begins in
    let z : NoSeal e = rw two in
    rw (unseal_more e es z) two

-- ---- the other way: the checksum put last

pub seal_flat : (c : List ℕ) → length c ≡ 2 → flat_entry (plain (seal_item c)) ≡ 1 ∷ 2 ∷ c
unfolding flat_entry flat_item seal_item oid_bytes digits len_bytes
seal_flat c e = rw e

pub seal_read : (seen c : List ℕ) → length c ≡ 2 → has 1 seen ≡ false → none? seen ≡ false → EntryRead standalone seen (plain (seal_item c)) true
unfolding may_stand may_begin seal_item rule_of rules find sized
seal_read seen c l n s = (
  record {
    low = omega arith;
    high = omega arith;
    coded = omega arith;
    brief = refl;
    ruled = record {
      not_empty = omega arith;
      stands = record { new = n; may_stand = refl; begins = rw s };
      valued = record { length_allowed = rw l; pixel_not_0 = refl };
    };
  },
  refl,
)

pub unseal_all : (es tl : List Entry) → All NoSeal es → unsealed (es ++ tl) ≡ es ++ unsealed tl
unseal_all [] tl h = refl
unseal_all (e ∷ es) tl h = unseal_more e (es ++ tl) h.0 ∙ ap (λ x. e ∷ x) (unseal_all es tl h.1)

pub unseal_none : unsealed [] ≡ []
unfolding unsealed take_out
unseal_none = refl

pub unseal_seal : (c : List ℕ) → unsealed (plain (seal_item c) ∷ []) ≡ []
unseal_seal c = unseal_here (seal_item c) [] (unfold seal_item in refl)

pub has_seal : (es : List Entry) (c : List ℕ) → has 1 (map tag_of_entry (es ++ (plain (seal_item c) ∷ []))) ≡ true
unfolding has seal_item
has_seal [] c = refl
has_seal (e ∷ es) c = rw (has_seal es c) (or_right (eqb (tag_of_entry e) 1))
