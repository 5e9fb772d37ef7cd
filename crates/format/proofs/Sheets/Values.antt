-- A record `IT` or `TI`: what was read is a valid value as bytes, and such a value is read back.
use mathlib.Core.Path.{◌≡◌, refl, sym, ap, ◌∙◌}
use Prim.Native.Nat.{ℕ, ◌+◌, ◌≤◌, ◌<◌}
use native.Mathlib.Omega.{arith}
use mathlib.Core.Bool.{true, false}
use mathlib.Core.List.{List, [], ◌∷◌, ◌++◌, append_assoc}
use lib.ListN.{length, take, drop, length-append, length-drop, take-append-drop}
use lib.Seq.{drop-drop, length-take-le, take_at, drop_at, take-append_seam}
use lib.Dec.{leb}
use borrow.Author.Tests.{leb-true, le-leb, eqb-true, eq-eqb}
use Rattle.format.specs.Answer.{ok, Got, got, ◌>>=◌, need}
use Rattle.format.specs.Coding.{Bytes, bytes_number, fixed}
use Rattle.format.specs.Lists.{has}
use Rattle.format.specs.Table.{Form, Level, pack, rule_of, nameable, may_begin, short}
use Rattle.format.specs.Sheet.{Val, tag_of_val, Mark, mark_of, TI, val_bytes, is, field, value_at}
use Rattle.format.specs.Valid.{ValValid}
use Rattle.format.proofs.Words.Answers.{bind_then, need_then, ok_inj, no_bool, and_both}
use Rattle.format.proofs.Words.Bytes.{bytes_drop, bytes_take, Took}
use Rattle.format.proofs.Coding.Digits.{fixed_number, length_fixed, fixed_back}
use Rattle.format.proofs.Table.Tags.{nameable_high}
use Rattle.format.proofs.Table.Values.{Ruled, rules_say, rules_give}
use Rattle.format.proofs.Reading.Packets.{same_eq, same_refl}
use Rattle.format.proofs.Reading.Runs.{Faithful, ReadsAt}

pub length_val : (l : Level) (v : Val) → length (val_bytes l v) ≡ 2 + (4 + length v.value)
unfolding val_bytes
length_val l v = simp (length-append, length_fixed) (omega arith)

-- a record and what follows it
pub val_append : (l : Level) (v : Val) (t : List ℕ)
    → val_bytes l v ++ t ≡ (mark_of l).0 ∷ (mark_of l).1 ∷ fixed 2 v.tag ++ (fixed 2 (length v.value) ++ (v.value ++ t))
unfolding val_bytes
val_append l v t =
    ap (λ x. (mark_of l).0 ∷ (mark_of l).1 ∷ x)
    (append_assoc (fixed 2 v.tag) (fixed 2 (length v.value) ++ v.value) t ∙ ap (λ x. fixed 2 v.tag ++ x) (append_assoc (fixed 2 (length v.value)) v.value t))

-- bytes that begin with b
pub took_front : (b s t : List ℕ) (w : ℕ) → s ≡ b ++ t → w ≡ length b → 0 < w → Took b s w
took_front b s t w e n p = record {
  bytes = e ∙ ap (λ x. b ++ x) (sym (ap (drop w) e ∙ drop_at b t w (sym n)));
  pos = p;
  room = rw (e, n) (simp length-append (omega arith));
}

-- a mark that was seen stands there
pub mark_says : (m : Mark) (s : List ℕ) → is m s ≡ true → s ≡ m.0 ∷ m.1 ∷ drop 2 s
mark_says m [] e = no_bool e
mark_says m (x ∷ []) e = no_bool e
mark_says m (x ∷ y ∷ s) e =
    let (p, q) = and_both _ _ e in
    let a : x ≡ m.0 = eqb-true x m.0 p in
    let b : y ≡ m.1 = eqb-true y m.1 q in
    ap (λ z. z ∷ y ∷ s) a ∙ ap (λ z. m.0 ∷ z ∷ s) b

pub mark_here : (m : Mark) (s : List ℕ) → is m (m.0 ∷ m.1 ∷ s) ≡ true
mark_here m s = rw (eq-eqb m.0 m.0 refl, eq-eqb m.1 m.1 refl)

-- ---- what stands after the mark

record FieldRead (l : Level) (s : List ℕ) (r : Got Val) : Type 0 where
  bytes : s ≡ fixed 2 r.val.tag ++ (fixed 2 (length r.val.value) ++ (r.val.value ++ drop (4 + length r.val.value) s))
  used_is : r.used ≡ 4 + length r.val.value
  named : nameable l r.val.tag ≡ true

field_says : (l : Level) (s : List ℕ) (r : Got Val) → Bytes s → field l s ≡ ok r → FieldRead l s r
unfolding field
field_says l s r b e =
    need_then _ _ _ _ e λ four e₁.
    need_then _ _ _ _ e₁ λ room e₂.
    need_then _ _ _ _ e₂ λ named e₃.
    let n : ℕ = bytes_number (take 2 (drop 2 s)) in
    let v : List ℕ = take n (drop 4 s) in
    let l₄ : 4 ≤ length s = leb-true _ _ four in
    let rm : 4 + n ≤ length s = leb-true _ _ room in
    let lv : length v ≡ n = length-take-le n (drop 4 s) (simp length-drop (omega arith)) in
    let f₁ : fixed 2 (bytes_number (take 2 s)) ≡ take 2 s = fixed_back 2 (take 2 s) (bytes_take 2 s b) (length-take-le 2 s (omega arith)) in
    let f₂ : fixed 2 n ≡ take 2 (drop 2 s)
    = fixed_back 2 (take 2 (drop 2 s)) (bytes_take 2 (drop 2 s) (bytes_drop 2 s b)) (length-take-le 2 (drop 2 s) (simp length-drop (omega arith))) in
    let d : drop 2 (drop 2 s) ≡ drop 4 s = drop-drop 2 2 s in
    let q : drop 4 s ≡ v ++ drop (4 + n) s = sym (take-append-drop n (drop 4 s)) ∙ ap (λ x. v ++ x) (drop-drop n 4 s) in
    let z : s ≡ take 2 s ++ (take 2 (drop 2 s) ++ (v ++ drop (4 + n) s))
    = sym (take-append-drop 2 s) ∙ ap (λ x. take 2 s ++ x) (sym (take-append-drop 2 (drop 2 s)) ∙ ap (λ x. take 2 (drop 2 s) ++ x) (d ∙ q)) in
    rw (← ok_inj _ _ e₃) (record { bytes = rw (lv, f₁, f₂) z; used_is = rw lv; named = named })

field_back : (l : Level) (v : Val) (w : List ℕ) → nameable l v.tag ≡ true → v.tag < 65536 → length v.value < 65536
    → field l (fixed 2 v.tag ++ (fixed 2 (length v.value) ++ (v.value ++ w))) ≡ ok (got v (4 + length v.value))
unfolding field ◌>>=◌ need
field_back l v w h ht hn =
    let t : ℕ = v.tag in
    let n : ℕ = length v.value in
    let s : List ℕ = fixed 2 t ++ (fixed 2 n ++ (v.value ++ w)) in
    let d₁ : drop 2 s ≡ fixed 2 n ++ (v.value ++ w) = drop_at (fixed 2 t) _ 2 (length_fixed 2 t) in
    let d₂ : drop 2 (fixed 2 n ++ (v.value ++ w)) ≡ v.value ++ w = drop_at (fixed 2 n) _ 2 (length_fixed 2 n) in
    let d₃ : drop 4 s ≡ v.value ++ w = sym (drop-drop 2 2 s) ∙ ap (drop 2) d₁ ∙ d₂ in
    let t₁ : take 2 s ≡ fixed 2 t = take_at (fixed 2 t) _ 2 (length_fixed 2 t) in
    let t₂ : take 2 (fixed 2 n ++ (v.value ++ w)) ≡ fixed 2 n = take_at (fixed 2 n) _ 2 (length_fixed 2 n) in
    let n₁ : bytes_number (fixed 2 t) ≡ t = fixed_number 2 t (omega arith) in
    let n₂ : bytes_number (fixed 2 n) ≡ n = fixed_number 2 n (omega arith) in
    let size : length s ≡ 4 + n + length w = simp (length-append, length_fixed) (omega arith) in
    let l₁ : leb 4 (length s) ≡ true = le-leb 4 (length s) (omega arith) in
    let l₂ : leb (4 + n) (length s) ≡ true = le-leb (4 + n) (length s) (omega arith) in
    rw (l₁, t₁, n₁, d₁, t₂, n₂, l₂, h, d₃, take-append_seam v.value w)

-- ---- the record

pub record ValRead (l : Level) (f : Form) (seen : List ℕ) (v : Val) : Type 0 where
  pub new : has v.tag seen ≡ false
  pub begins : may_begin l f v.tag seen ≡ true
  pub valid : ValValid l f v

val_valid : (l : Level) (f : Form) (seen : List ℕ) (v : Val) → nameable l v.tag ≡ true → Ruled l f seen v.tag true v.value → short (rule_of l v.tag) v.value ≡ v.value
    → ValRead l f seen v
val_valid l f seen v m h s = record {
  new = h.stands.new;
  begins = h.stands.begins;
  valid = record {
    meets = record { named = m; not_empty = h.not_empty; may_stand = h.stands.may_stand; valued = h.valued };
    shortest = s;
  };
}

pub value_says : (l : Level) (f : Form) (seen s : List ℕ) (r : Got Val) → Bytes s → is (mark_of l) s ≡ true → value_at l f seen s ≡ ok r
    → Took (val_bytes l r.val) s r.used × ValRead l f seen r.val
unfolding value_at
value_says l f seen s r b m e =
    bind_then _ _ _ e λ v ev e₁.
    bind_then _ _ _ e₁ λ u eu e₂.
    need_then _ _ _ _ e₂ λ sh e₃.
    let k = field_says l (drop 2 s) v (bytes_drop 2 s b) ev in
    let a : ℕ = (mark_of l).0 in
    let c : ℕ = (mark_of l).1 in
    let t : List ℕ = drop (4 + length v.val.value) (drop 2 s) in
    let z : s ≡ val_bytes l v.val ++ t = mark_says (mark_of l) s m ∙ ap (λ x. a ∷ c ∷ x) k.bytes ∙ sym (val_append l v.val t) in
    rw (← ok_inj _ _ e₃) (
      took_front (val_bytes l v.val) s t (2 + v.used) z (rw (length_val l v.val, k.used_is) (omega arith)) (omega arith),
      val_valid l f seen v.val k.named (rules_say _ _ _ _ _ _ _ eu) (same_eq _ _ sh),
    )

-- how large a tag or a value that is named can be
nameable_small : (l : Level) (tag : ℕ) → nameable l tag ≡ true → tag < 65536
nameable_small l tag h = omega (arith, nameable_high l tag h)

pub value_back : (l : Level) (f : Form) (seen : List ℕ) (v : Val) (t : List ℕ) → ValRead l f seen v → length v.value < 65536
    → value_at l f seen (val_bytes l v ++ t) ≡ ok (got v (length (val_bytes l v)))
unfolding value_at ◌>>=◌ need
value_back l f seen v t h n =
    let g = h.valid.meets in
    let e : drop 2 (val_bytes l v ++ t) ≡ fixed 2 v.tag ++ (fixed 2 (length v.value) ++ (v.value ++ t)) = ap (drop 2) (val_append l v t) in
    let ruled : Ruled l f seen v.tag true v.value
    = record { not_empty = g.not_empty; stands = record { new = h.new; may_stand = g.may_stand; begins = h.begins }; valued = g.valued } in
    rw (
      e,
      field_back l v t g.named (nameable_small l v.tag g.named) n,
      rules_give l f seen v.tag true v.value ruled,
      h.valid.shortest,
      same_refl v.value,
      length_val l v,
    )

-- ---- as steps of a run

pub value_faithful : (f : Form) → Faithful (is TI) tag_of_val (value_at pack f) (val_bytes pack)
value_faithful f seen s r b m e = (value_says pack f seen s r b m e).0

pub value_goes : (l : Level) (v : Val) (t : List ℕ) → is (mark_of l) (val_bytes l v ++ t) ≡ true
value_goes l v t = rw val_append (mark_here (mark_of l) (fixed 2 v.tag ++ (fixed 2 (length v.value) ++ (v.value ++ t))))

pub value_stood : (f : Form) (seen : List ℕ) (v : Val) (t : List ℕ) → Bytes (val_bytes pack v ++ t) → ReadsAt (is TI) tag_of_val (value_at pack f) (val_bytes pack) seen v t → ValRead pack f seen v
value_stood f seen v t b h = (value_says pack f seen (val_bytes pack v ++ t) (got v (length (val_bytes pack v))) b h.goes h.reads).1

pub value_reads : (f : Form) (seen : List ℕ) (v : Val) (t : List ℕ) → ValRead pack f seen v → length v.value < 65536
    → ReadsAt (is TI) tag_of_val (value_at pack f) (val_bytes pack) seen v t
value_reads f seen v t h n = record { goes = value_goes pack v t; reads = value_back pack f seen v t h n; some = rw length_val (omega arith) }
