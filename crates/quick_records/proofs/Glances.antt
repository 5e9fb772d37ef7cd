-- The quick way's turns: a record told at a glance is read as the walk over its level reads it.
use Rattle.std.specs.Prelude.{Ok, ◌≡◌, ℕ, ◌+◌, ◌-◌, ◌*◌, ◌<◌, ◌≤◌, Bool, true, false, not, ◌&&◌, ◌||◌, eqb, List, ◌∷◌, length, get_or, take, drop}
use Rattle.std.proofs.Common.{zero, suc, ◌%◌, [], sym, refl, ap, ◌∙◌, arith, length-drop, length-take-le, get_or-drop, get_or-take, drop-drop, lt-ltb, eq-eqb, le-leb}
use lib.Bits.{bit_or}
use Rattle.format.specs.Coding.{Bytes, bytes_number, number, oid_bytes, len_width}
use Rattle.format.specs.Table.{Form, Level, is_set, rule_of, nameable}
use Rattle.format.specs.Sheet.{mark_of, is, value_at}
use Rattle.format.proofs.Words.Bytes.{bytes_drop}
use Rattle.coding.proofs.Lens.{two_small}
use Rattle.coding.proofs.Rooms.{tail_part, bytes_room}
use Rattle.coding.proofs.Counts.{len_one, count_start, count_done}
use Rattle.items.specs.Meet.{level_of}
use Rattle.items.specs.Quick.{Glanced}
use Rattle.items.proofs.Glances.{as_same}
use Rattle.items.proofs.Tests.{standing_0}
use Rattle.heads.specs.Meet.{next, peek, Past}
use Rattle.heads.specs.Records.{fields}
use Rattle.heads.proofs.Heads.{mid_part}
use Rattle.heads.proofs.Spans.{val_whole, a_field}
use Rattle.tally.specs.Pieces.{Piece}
use Rattle.tally.specs.Pieces as piece
use Rattle.tally.specs.declared.Sizes.{Sizes}
use Rattle.tally.specs.Meet.{sizes, item_sizes, pack_sizes, plus_sizes, bit_of}
use Rattle.tally.specs.Going.{Begun, stage_at}
use Rattle.tally.proofs.Turns.{going_wide}
use Rattle.tally.proofs.Walks.{same_sizes}
use Rattle.tally.proofs.Begins.{begun_later}
use Rattle.tally.proofs.ItemTurns.{level_is}
use Rattle.tally_records.specs.Meet.{piece_by, value_whole, part_piece, more_at}
use Rattle.tally_records.specs.Going.{RecordsGoing, After}
use Rattle.quick_records.specs.Going.{RecordGlanced, RecordsPassed, first_tag, word_of}
use Rattle.tally_records.proofs.Values.{value_within, value_whole_lem}
use Rattle.tally_records.proofs.Opens.{part_inner, part_value}
use Rattle.tally_records.proofs.PartTurns.{records_start, item_is_lem, PartAt, item_told, part_more}

-- the sizes of so many such records in p bytes
abbrev pub told_sizes : ℕ → ℕ → Sizes
told_sizes count p = sizes p count (p - 4 * count) 0

quick_plus : (l : Level) (tag n count p : ℕ) → is_set l && eqb tag 1 ≡ false → tag < 128 → n < 128 → 4 * count ≤ p
    → told_sizes (count + 1) (p + (item_sizes l tag n).sheet) ≡ plus_sizes (told_sizes count p) (item_sizes l tag n)
quick_plus l tag n count p z th nh h =
    let u : 1 ≡ length (oid_bytes tag) = (count_done tag 1 tag (count_start tag (omega arith)) th).0 in
    let w : 1 ≡ len_width n = len_one n nh in
    rw (item_is_lem l tag n z) (same_sizes (omega arith) refl (omega (arith, u, w)) refl)

-- and of targets: one more, whose pack has a byte for its length, and whose id takes w
pub passed_plus : (p rows normal w : ℕ) (z : Sizes) → w + z.normal ≤ 127 → sizes (p + 10 + z.sheet) (rows + 1 + z.rows) (normal + 1 + (w + z.normal)) 0 ≡ plus_sizes (sizes p rows normal 0) (pack_sizes w z)
passed_plus p rows normal w z h =
    let one : 1 ≡ len_width (w + z.normal) = len_one (w + z.normal) (omega arith) in
    same_sizes (omega arith) (omega arith) (omega arith) refl

-- ---- its mark and its tag, as one number

marked : (b : Bool) (x y t tag : ℕ) → x * 16777216 + y * 65536 + t ≡ word_of b + tag → y < 256 → t < 65536 → tag < 128
    → (x ≡ (mark_of (level_of b)).0) × (y ≡ (mark_of (level_of b)).1) × (tag ≡ t)
marked true x y t tag e yh th h = (omega arith, omega arith, omega arith)
marked false x y t tag e yh th h = (omega arith, omega arith, omega arith)

word_small : (b : Bool) → word_of b < 2147483648
word_small true = omega arith
word_small false = omega arith

head_is_lem : (b : Bool) (u : List ℕ) {tag : ℕ} → 4 ≤ length u → Bytes u → bytes_number (take 4 u) ≡ word_of b + tag → tag < 128
    → (is (mark_of (level_of b)) u ≡ true) × (tag ≡ bytes_number (take 2 (drop 2 u)))
unfolding number
head_is_lem b [] h bytes e l = absurd (omega arith)
head_is_lem b (x ∷ []) h bytes e l = absurd (omega arith)
head_is_lem b (x ∷ y ∷ []) h bytes e l = absurd (omega arith)
head_is_lem b (x ∷ y ∷ z ∷ []) h bytes e l = absurd (omega arith)
head_is_lem b (x ∷ y ∷ z ∷ w ∷ s) {tag} h bytes e l =
    let t = marked b x y (z * 256 + w) tag (omega (arith, e)) (bytes 1) (omega (arith, bytes 2, bytes 3)) l in
    (rw (eq-eqb x _ t.0, eq-eqb y _ t.1), omega (arith, t.2))

-- a level goes on where it stands; how what it marks is read
mark_more : (b : Bool) (u : List ℕ) → is (mark_of (level_of b)) u ≡ true → more_at (level_of b) u ≡ true
mark_more true u m = refl
mark_more false u m = m

mark_piece : (b : Bool) (f : Form) (seen u : List ℕ) → is (mark_of (level_of b)) u ≡ true → {r : Piece} → r ≡ piece_by value_whole (value_at (level_of b) f seen u) → r ≡ part_piece (level_of b) f seen u
mark_piece true f seen u m e = part_value f seen u refl refl m e
mark_piece false f seen u m e = part_inner f seen u refl e

-- ---- as the code finds it

pub head_fits : (s : List ℕ) (p : ℕ) → Bytes s → p + 6 < length s → {head : ℕ} → head ≡ bytes_number (take 4 (take (length s - p) (drop p s))) → head < 4294967296
head_fits s p bytes h {head} e =
    let l : bytes_number (take 4 (drop p s)) < 4294967296 = bytes_room 4 (drop p s) (bytes_drop p s bytes) (rw length-drop (omega arith)) in
    let z : head ≡ bytes_number (take 4 (drop p s)) = rw tail_part at e in
    omega (arith, l, z)

pub size_from : (s : List ℕ) (p : ℕ) → p + 6 < length s → get_or s (p + 4) 0 ≡ 0 → {n : ℕ} → n ≡ get_or s (p + 5) 0 → n ≡ bytes_number (take 2 (take (length s - (p + 4)) (drop (p + 4) s)))
size_from s p h z e = rw tail_part (e ∙ two_small s (p + 4) (omega arith) (omega arith) z)

named : (l : Level) (f : Form) (tag n first : ℕ) → 0 < tag → tag < 128 → Glanced l f tag n first → true ≡ nameable l tag
unfolding nameable
named l f tag n first z h q = rw (lt-ltb 0 tag z, le-leb tag 16383 (omega arith)) (sym (neither (is_set l) (eqb tag 1) (eqb tag 101) q.no_seal q.no_series))
  where
    neither : (x y z : Bool) → x && y ≡ false → x && z ≡ false → not (x && (y || z)) ≡ true
    neither false y z e g = refl
    neither true false false e g = refl
    neither true true z e g = sym e
    neither true false true e g = sym g

-- by its mark and its numbers
pub glance_of : (b : Bool) (f : Form) (s : List ℕ) (p : ℕ) {top tag n : ℕ} → is (mark_of (level_of b)) (drop p s) ≡ true → tag ≡ bytes_number (take 2 (drop 2 (drop p s))) → n ≡ bytes_number (take 2 (drop 4 (drop p s)))
    → p + 6 + n ≤ length s → top < tag → tag < 128 → n < 128 → Glanced (level_of b) f tag n (get_or s (p + 6) 0) → RecordGlanced b f s p top tag n
glance_of b f s p {tag = tag} {n = n} mark is_tag is_size room above th nh q =
    let u : List ℕ = drop p s in
    let long : 6 + n ≤ length u = rw length-drop (omega arith) in
    let size : n ≡ bytes_number (take 2 (take (length u - 4) (drop 4 u))) = rw tail_part is_size in
    let tagged : tag ≡ bytes_number (take 2 (take (length u - 2) (drop 2 u))) = rw tail_part is_tag in
    let at = a_field (level_of b) u (next tag (6 + n)) (val_whole u n size tag tagged long) (named (level_of b) f tag n _ (omega arith) th q) in
    let z : 6 + n - 6 ≡ n = omega arith in
    record {
      mark = mark;
      tag_is = is_tag;
      size_is = is_size;
      fields = rw z at at;
      quick = q;
      above = above;
      small = th;
      few = nh;
    }

-- by the number that mark and tag are read as
pub glance_from : (b : Bool) (f : Form) (s : List ℕ) (p top : ℕ) → Bytes s → p + 6 < length s
    → {head word tag : ℕ} → head ≡ bytes_number (take 4 (take (length s - p) (drop p s))) → word ≡ word_of b → tag ≡ (head + (4294967296 - word)) % 4294967296 → top < tag
    → get_or s (p + 4) 0 ≡ 0 → {n : ℕ} → n ≡ get_or s (p + 5) 0 → p + 6 + n ≤ length s
    → (tag < 128) × (n < 128) × Glanced (level_of b) f tag n (get_or s (p + 6) 0) → RecordGlanced b f s p top tag (p + 6 + n - (p + 6))
glance_from b f s p top bytes here {head} {word} {tag} eh ew et above z {n} en room (th, nh, q) =
    let u : List ℕ = drop p s in
    let long : 4 ≤ length u = rw length-drop (omega arith) in
    let fits : head < 4294967296 = head_fits s p bytes here eh in
    let e : bytes_number (take 4 u) ≡ word_of b + tag = sym (rw tail_part at eh) ∙ omega (arith, ew, word_small b, et) in
    let (mark, is_tag) = head_is_lem b u long (bytes_drop p s bytes) e th in
    let size : n ≡ bytes_number (take 2 (drop 4 u)) = rw (drop-drop 4 p s) (rw tail_part at (size_from s p here z en)) in
    let y : p + 6 + n - (p + 6) ≡ n = omega arith in
    rw y (glance_of b f s p mark is_tag size (omega arith) above th nh q)

-- the first may begin its level, and whatever comes later
pub glance_begun : {b : Bool} {f : Form} {s : List ℕ} {p top tag n : ℕ} → RecordGlanced b f s p top tag n → Begun b f 0 (first_tag s) → Begun b f p tag
glance_begun {p = zero} g h = rw g.tag_is h
glance_begun {b = b} {f = f} {p = suc p} {tag = tag} g h = begun_later b f (suc p) tag (omega arith)

-- and whatever comes later has a tag above the first, which is the lowest
pub first_least : {b : Bool} {f : Form} {s : List ℕ} {p top tag n : ℕ} → RecordGlanced b f s p top tag n → (0 < p → first_tag s ≤ top) → first_tag s ≤ tag
first_least {p = zero} g h = omega (arith, g.tag_is)
first_least {p = suc p} g h = omega (arith, h (omega arith), g.above)

-- ---- the turn

module _ {b : Bool} {f : Form} {s : List ℕ} {p top tag n : ℕ} (g : RecordGlanced b f s p top tag n) where
  pub glance_room : p + 6 + n ≤ length s
  glance_room = omega (arith, value_within (drop p s) (level_of b) {h = Ok (fields tag n)} g.fields refl, length-drop p s, g.quick.some)

  abbrev value : List ℕ
  value = take (6 + n - 6) (drop 6 (drop p s))

  value_is : value ≡ take n (drop 6 (drop p s))
  value_is = mid_part 6 n (drop p s)

  value_size : length value ≡ n
  value_size = ap length value_is ∙ length-take-le n (drop 6 (drop p s)) (rw (length-drop, length-drop) (omega (arith, glance_room)))

  value_head : get_or value 0 0 ≡ get_or s (p + 6) 0
  value_head =
      ap (λ v. get_or v 0 0) value_is
      ∙ get_or-take n _ 0 0 g.quick.some
      ∙ get_or-drop 6 (drop p s) 0 0
      ∙ get_or-drop p s 6 0

  pub glance_piece : Begun b f p tag → {low : ℕ} (seen : List ℕ) → Past (peek true false b) s p top low seen → piece.Whole tag 6 n n ≡ part_piece (level_of b) f seen (drop p s)
  glance_piece begins seen q =
      mark_piece b f seen (drop p s) g.mark
      (value_whole_lem (drop p s) (level_of b) {h = Ok (fields tag n)} g.fields refl f seen
      (λ e. omega (arith, g.quick.some))
      {j = Ok tt} (standing_0 (level_of b) f seen tag true (sym (q.under tag g.above)) (sym (g.quick.stands true)) (eqb p 0) (sym q.first) (sym begins))
      refl {rule = rule_of (level_of b) tag} refl
      {m = Ok tt} (sym (g.quick.allowed value value_size (as_same _ _ value_head))) refl
      (sym (ap length (g.quick.shortest value value_size (as_same _ _ value_head)) ∙ value_size))
      refl)

-- where it ends
pub glance_next : {b : Bool} {f : Form} {s : List ℕ} {p top tag next : ℕ} → RecordGlanced b f s p top tag (next - (p + 6)) → (p + 6 < next) × (next ≤ length s)
glance_next g = (omega (arith, g.quick.some), omega (arith, glance_room g, g.quick.some))

-- tags rise; none is below low
pub glance_more : {b : Bool} {f : Form} {s : List ℕ} {p top tag next : ℕ} → RecordGlanced b f s p top tag (next - (p + 6)) → Begun b f p tag
    → {count held low : ℕ} → RecordsGoing b f s p (told_sizes count p) held top low → low ≤ tag → 4 * count ≤ p → Bytes s → length s ≤ 65536
    → {y held' : ℕ} → y ≡ bit_of tag → held' ≡ bit_or held y → RecordsGoing b f s next (told_sizes (count + 1) next) held' tag low
glance_more {b = b} {f = f} {s = s} {p = p} {top = top} {tag = tag} {next = next} g begins {count = count} {held = held} {low = low} go above few bytes most {held' = held'} ey em =
    let n : ℕ = next - (p + 6) in
    let i : PartAt b f s (stage_at p (told_sizes count p) held top low) tag 6 n n = record {
      going = go;
      here = omega (arith, glance_next g);
      more = mark_more b (drop p s) g.mark;
      told = λ seen q. glance_piece g begins seen q;
      bytes = bytes;
      most = most;
    } in
    let at : next ≡ p + (item_sizes (level_of b) tag n).sheet = omega (arith, glance_next g, ap (λ (a : Sizes). a.sheet) (item_is_lem (level_of b) tag n g.quick.no_seal)) in
    let after : After (stage_at p (told_sizes count p) held top low) tag (item_sizes (level_of b) tag n) (bit_of tag) (stage_at next (told_sizes (count + 1) next) held' tag low) = record {
      at_is = at;
      sizes_are = ap (told_sizes (count + 1)) at ∙ quick_plus (level_of b) tag n count p g.quick.no_seal g.small g.few few;
      held_is = em ∙ ap (bit_or held) ey;
      over = (omega (arith, g.above), omega arith);
      under = (omega arith, omega arith);
    } in
    part_more i (item_told i {x = b && eqb tag 101} refl (rw level_is at g.quick.no_series) refl) refl after

-- ---- the loop

-- the records up to p, the first of which is the lowest
pub record Rising (b : Bool) (f : Form) (s : List ℕ) (p count held top : ℕ) : Type 0 where
  pub going : RecordsGoing b f s p (told_sizes count p) held top (first_tag s)
  pub few : 4 * count ≤ p
  pub above : 0 < p → first_tag s ≤ top

module _ (b : Bool) (f : Form) (s : List ℕ) where
  pub rising_start : Rising b f s 0 0 0 0
  rising_start = record { going = records_start b f s; few = omega arith; above = λ h. absurd (omega arith) }

  module _ (p count held top : ℕ) (r : Rising b f s p count held top) where
    pub rising_done : {low : ℕ} → low ≤ first_tag s → RecordsPassed b f s (stage_at p (told_sizes count p) held top low)
    rising_done h = (going_wide r.going (omega arith) h, refl)

    pub rising_more : (tag next : ℕ) → RecordGlanced b f s p top tag (next - (p + 6)) → Begun b f 0 (first_tag s) → Bytes s → length s ≤ 65536 → {y : ℕ} → y ≡ bit_of tag → Rising b f s next (count + 1) (bit_or held y) tag
    rising_more tag next g begins bytes most ey = record {
      going = glance_more g (glance_begun g begins) r.going (first_least g r.above) r.few bytes most ey refl;
      few = omega (arith, r.few, glance_next g);
      above = λ _. first_least g r.above;
    }
