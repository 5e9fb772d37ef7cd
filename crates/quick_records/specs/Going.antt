-- A record that is told at a glance, and how far the quick way over a series' targets took their walk.
use Rattle.std.specs.Prelude.{◌≡◌, ℕ, ◌+◌, ◌*◌, ◌^◌, ◌<◌, Bool, true, false, List, take, drop, slice_index}
use Rattle.format.specs.Answer.{ok}
use Rattle.format.specs.Coding.{bytes_number}
use Rattle.format.specs.Table.{Form}
use Rattle.format.specs.Sheet.{mark_number, mark_of, IT, TG, TI, is, field}
use Rattle.items.specs.Meet.{level_of}
use Rattle.items.specs.Quick as items
use Rattle.heads.specs.Records.{field_answer}
use Rattle.heads.specs.Records as heads
use Rattle.tally.specs.declared.stages.Stage.{Stage}
use Rattle.tally.specs.Going.{Begun}
use Rattle.tally_records.specs.Going.{RecordsFrom, TargetsFrom}

-- the walk over a level's records as far as the quick way took it: a record takes as many bytes as it adds to the sheet
abbrev pub RecordsPassed : Bool → Form → List ℕ → Stage → Type 0
RecordsPassed b f s q = RecordsFrom b f s q × (q.at ≡ q.sizes.sheet)

-- the walk over the targets of a series, which has one, as far as the quick way took it: a target takes as many bytes as it adds to the sheet
abbrev pub TargetsPassed : Form → List ℕ → Stage → Type 0
TargetsPassed f s q = TargetsFrom f s q × (q.top < 2 ^ 63) × (q.at ≡ q.sizes.sheet) × (is TG s ≡ true)

-- the tag of the record that begins a level
abbrev pub first_tag : List ℕ → ℕ
first_tag s = bytes_number (take 2 (drop 2 s))

-- the mark of a level's records before a tag of 0, as one number
abbrev pub word_of : Bool → ℕ
word_of true = mark_number IT * 65536
word_of false = mark_number TI * 65536

-- a level's record at p, told at a glance, whose tag is above top, and whose value has n bytes
pub record RecordGlanced (b : Bool) (f : Form) (s : List ℕ) (p top tag n : ℕ) : Type 0 where
  pub mark : is (mark_of (level_of b)) (drop p s) ≡ true
  pub tag_is : tag ≡ bytes_number (take 2 (drop 2 (drop p s)))
  pub size_is : n ≡ bytes_number (take 2 (drop 4 (drop p s)))
  pub fields : ok (heads.fields tag n) ≡ field_answer (field (level_of b) (drop 2 (drop p s)))
  pub quick : items.Glanced (level_of b) f tag n (slice_index s (p + 6))
  pub above : top < tag
  pub small : tag < 128
  pub few : n < 128

-- the same, and it may begin its level where it does
abbrev pub BegunGlanced : Bool → Form → List ℕ → ℕ → ℕ → ℕ → ℕ → Type 0
BegunGlanced b f s p top tag n = RecordGlanced b f s p top tag n × Begun b f p tag
