-- The edit: one item put or removed, or two of one target, on a sheet and on a packet, and the rules that refuse it (document 01, Edit and
-- show; document 02, request 1). The changes are a list, made in the order given; a call carries one or two.
use Rattle.std.specs.Prelude.{ℕ, Bool, true, false, not, ◌&&◌, ◌||◌, List, [], ◌∷◌, map, length, ltb, eqb}
use Rattle.format.specs.Answer.{Ans, ok, refused, need, ◌>>=◌}
use Rattle.format.specs.Lists.{none?, has, put_in, take_out, on_hit, ask_hit}
use Rattle.format.specs.Table.{Form, Level, set, pack, is_alone, rule_of, nameable, may_stand, valued, ended, short}
use Rattle.format.specs.Packet.{Pack, Entry, plain, series, Packet, tag_of_item, tag_of_entry, closed}
use Rattle.format.specs.Read.{parse}
use Rattle.format.specs.Sheet.{Val, Target, Part, one, targets, Sheet, tag_of_val, tag_of_part, content}
use Rattle.format.specs.Calls.{item_of, pack_with, series_with, packed}

-- what holds the item: the set, or the target with an id
pub data Holder : Type 0 where
  the_set : Holder
  target : ℕ → Holder

pub data Change : Type 0 where
  put : List ℕ → Change
  remove : Change

abbrev pub level_of : Holder → Level
level_of the_set = set
level_of (target i) = pack

-- changes to one level, each with its tag
abbrev pub Changes : Type 0
Changes = List (ℕ × Change)

-- the change of the thing with this tag, a put one made from its value
unfoldable pub changed : {X : Type 0} → (X → ℕ) → (ℕ → List ℕ → X) → ℕ → Change → List X → List X
changed key make tag (put v) xs = put_in (λ x. eqb (key x) tag) (make tag v) xs
changed key make tag remove xs = take_out (λ x. eqb (key x) tag) xs

-- one change after the other
unfoldable pub applied : {X : Type 0} → (X → ℕ) → (ℕ → List ℕ → X) → Changes → List X → List X
applied key make [] xs = xs
applied key make ((tag, c) ∷ cs) xs = applied key make cs (changed key make tag c xs)

-- ---- the change to a sheet

-- a value as it is put: a number is first shortened
unfoldable pub val_with : Level → ℕ → List ℕ → Val
val_with l tag v = record { tag = tag; value = short (rule_of l tag) v }

unfoldable pub in_target : Changes → Target → Target
in_target cs g = record { id = g.id; vals = applied tag_of_val (val_with pack) cs g.vals }

abbrev pub is_targets : Part → Bool
is_targets (one v) = false
is_targets (targets ts) = true

unfoldable pub in_part : ℕ → Changes → Part → Part
in_part i cs (one v) = one v
in_part i cs (targets ts) = targets (on_hit (λ g. eqb g.id i) (in_target cs) ts)

unfoldable pub edit_parts : Holder → Changes → List Part → List Part
edit_parts the_set cs ps = applied tag_of_part (λ tag v. one (val_with set tag v)) cs ps
edit_parts (target i) cs ps = on_hit is_targets (in_part i cs) ps

unfoldable pub edit_sheet : Holder → Changes → Sheet → Sheet
edit_sheet h cs s = record { form = s.form; parts = edit_parts h cs s.parts }

-- ---- the rules: for each change in its turn 19, 18, then for a put 7, 13, 11, 12; then 20 and 14 on the result; all at 0

unfoldable pub target_tags : ℕ → Part → Ans (List ℕ)
target_tags i (one v) = refused 18 0
target_tags i (targets ts) = ask_hit (λ g. eqb g.id i) (λ g. ok (map tag_of_val g.vals)) ts

-- the tags of the level named, if it is there
unfoldable pub tags_at : Holder → List Part → Ans (List ℕ)
tags_at the_set ps = ok (map tag_of_part ps)
tags_at (target i) ps = ask_hit is_targets (target_tags i) ps

unfoldable pub change_rules : Form → Level → ℕ → List ℕ → Change → Ans (Unit {0})
change_rules f l tag tags (put v) = do
  _ ← need (ltb 0 (length v)) 7
  _ ← need (may_stand l f tag true) 13
  valued (rule_of l tag) v
change_rules f l tag tags remove = need (has tag tags) 18

-- where the level ends: a standalone set begins with tag 2, so it has one
unfoldable pub ending : Form → Level → List ℕ → Ans (Unit {0})
ending f set tags = need (not (is_alone f) || has 2 tags) 14
ending f pack tags = ended f tags

-- after changes with these tags: the set takes no second change, a target one with another tag
abbrev pub may_follow : Holder → List ℕ → ℕ → Bool
may_follow the_set before tag = none? before
may_follow (target i) before tag = not (has tag before)

-- each change in its turn, of a level that has the tags as the changes before left them
unfoldable pub turns : Form → Holder → List ℕ → Changes → Ans (List ℕ) → Ans (List ℕ)
turns f h before [] at = at
turns f h before ((tag, c) ∷ cs) at = do
  _ ← need (nameable (level_of h) tag && may_follow h before tag) 19
  tags ← at
  _ ← change_rules f (level_of h) tag tags c
  turns f h (tag ∷ before) cs (ok (changed (λ k. k) (λ t v. t) tag c tags))

unfoldable pub edit_rules : Holder → Changes → Sheet → Ans (Unit {0})
edit_rules h cs s = do
  tags ← turns s.form h [] cs (tags_at h s.parts)
  ending s.form (level_of h) tags

-- ---- the change to a packet: lengths as they stood, but for those of the item and around it

unfoldable pub in_pack : Changes → Pack → Pack
in_pack cs p = pack_with p.id (applied tag_of_item (λ tag v. item_of (val_with pack tag v)) cs p.items)

abbrev pub is_series : Entry → Bool
is_series (plain i) = false
is_series (series w ps) = true

unfoldable pub in_entry : ℕ → Changes → Entry → Entry
in_entry i cs (plain x) = plain x
in_entry i cs (series w ps) = series_with (on_hit (λ p. eqb p.id i) (in_pack cs) ps)

unfoldable pub edit_entries : Holder → Changes → List Entry → List Entry
edit_entries the_set cs es = applied tag_of_entry (λ tag v. plain (item_of (val_with set tag v))) cs es
edit_entries (target i) cs es = on_hit is_series (in_entry i cs) es

unfoldable pub edit_packet : Holder → Changes → Packet → Packet
edit_packet h cs p = closed p.form (edit_entries h cs p.entries)

-- the packet's own answer, the rules on what it says, then 1
unfoldable pub edit : Form → Holder → Changes → List ℕ → Ans (List ℕ)
edit f h cs s = do
  p ← parse f s
  _ ← edit_rules h cs (content p)
  packed (edit_packet h cs p)
