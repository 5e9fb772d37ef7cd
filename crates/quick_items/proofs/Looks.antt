-- The turns of a closer look: each item is read as the item walk reads it.
use mathlib.Core.Path.{◌≡◌, refl, ap, ◌∙◌}
use Prim.Native.Nat.{ℕ, ◌+◌, ◌-◌, ◌≤◌, ◌<◌}
use native.Mathlib.Omega.{arith}
use mathlib.Core.Bool.{Bool, ◌&&◌}
use mathlib.Core.List.{List}
use lib.ListN.{length, take, drop}
use lib.Dec.{eqb}
use lib.Bits.{bit_or}
use Rattle.format.specs.Answer.{ok}
use Rattle.format.specs.Coding.{Bytes}
use Rattle.format.specs.Read.{head_of}
use Rattle.format.specs.Table.{Form}
use Rattle.coding.proofs.Rooms.{tail_part}
use Rattle.items.specs.Meet.{level_of}
use Rattle.items.specs.Quick as items
use Rattle.heads.specs.Meet.{item_head}
use Rattle.heads.specs.declared.Head.{Head}
use Rattle.tally.specs.declared.Piece.{Piece}
use Rattle.tally.specs.Pieces as piece
use Rattle.tally.specs.Meet.{bit_of}
use Rattle.tally.specs.Going.{LevelGoing, Begun, New}
use Rattle.quick_items.specs.Items.{told_sizes, Closer, CloserAt}
use Rattle.tally.proofs.Turns.{new_key}
use Rattle.tally.proofs.ItemTurns.{ItemAt, level_is, piece_stood, piece_room, item_told, entry_more}
use Rattle.quick_items.proofs.Glances.{looked_meets, quick_piece, quick_plus}

-- the item at p as the code finds it, whose head it has read
module _ (b : Bool) (f : Form) (s : List ℕ) (p : ℕ) (h : Head) where
  -- what the code has of the level from there on, and of the value
  abbrev lent : List ℕ
  lent = take (length s - p) (drop p s)

  abbrev value : List ℕ
  value = take (h.used + h.width + h.size - (h.used + h.width)) (drop (h.used + h.width) lent)

  pub closer_found : ok (item_head h) ≡ head_of (level_of b) lent → {top low : ℕ} → New p top low h.key → Begun b f p h.key
      → {m : ℕ} → (h.key < 128) × (m < 128) × items.Looked (level_of b) f h.key value m → Closer b f s p top low h.key (h.used + h.width) h.size m
  closer_found said new begins (few, short, q) = record {
    read = quick_piece (looked_meets (record { told = rw tail_part at said }) (rw tail_part at q) begins) (new_key new);
    tag_few = few;
    short_few = short;
    no_series = q.no_series;
    no_seal = q.no_seal;
  }

-- such an item, where the walk goes on
pub record CloserHere (b : Bool) (f : Form) (s : List ℕ) (p count normal held top low : ℕ) (x : Piece) : Type 0 where
  pub going : LevelGoing b f s p (told_sizes count normal) held top low
  pub here : p < length s
  pub look : CloserAt b f s p top low x
  pub bytes : Bytes s
  pub most : length s ≤ 8192

module _ {b : Bool} {f : Form} {s : List ℕ} {p count normal held top low : ℕ} {x : Piece} (i : CloserHere b f s p count normal held top low x) where
  item : ItemAt b f s p (told_sizes count normal) held top low x.tag x.from x.size x.short
  item = record {
    going = i.going;
    here = i.here;
    it = piece.Whole x.tag x.from x.size x.short;
    told = i.look.read;
    whole = refl;
    bytes = i.bytes;
    most = i.most;
  }

  pub closer_next : (p < p + x.from + x.size) × (p + x.from + x.size ≤ length s) × (x.short < 128)
  closer_next = (omega (arith, (piece_stood item).some), piece_room item, i.look.short_few)

  -- y is what the code says of its bit
  pub closer_more : {y held' : ℕ} → y ≡ bit_of x.tag → held' ≡ bit_or held y → {top' : ℕ} → (top ≤ top') × (x.tag ≤ top') → {low' : ℕ} → (low' ≤ low) × (low' ≤ x.tag)
      → LevelGoing b f s (p + x.from + x.size) (told_sizes (count + 1) (normal + 2 + x.short)) held' top' low'
  closer_more ey eh =
      let q = i.look in
      entry_more item (item_told item {x = b && eqb x.tag 101} refl (rw level_is at q.no_series) refl) refl (quick_plus (level_of b) x.tag x.short count normal q.no_seal q.tag_few q.short_few)
      (eh ∙ ap (bit_or held) ey)
