-- The turns over items whose tags are not listed: each is read as the item walk reads it.
use mathlib.Core.Path.{◌≡◌, refl, sym, ap, ◌∙◌}
use Prim.Native.Nat.{ℕ, ◌+◌, ◌-◌, ◌≤◌, ◌<◌}
use native.Mathlib.Omega.{arith}
use mathlib.Core.Bool.{Bool, ◌&&◌}
use mathlib.Core.List.{List}
use lib.ListN.{length, drop, take, get_or}
use lib.Dec.{eqb}
use lib.Bits.{bit_or, or_zero_r}
use Rattle.format.specs.Coding.{Bytes}
use Rattle.format.specs.Table.{Form}
use Rattle.format.specs.Read.{head_of}
use Rattle.coding.proofs.Rooms.{tail_part}
use Rattle.items.specs.Meet.{level_of}
use Rattle.items.specs.Quick as items
use Rattle.items.proofs.Glances.{quick_beyond}
use Rattle.heads.specs.declared.Head.{Head}
use Rattle.heads.specs.Meet.{item_head}
use Rattle.format.specs.Answer.{ok}
use Rattle.tally.specs.declared.Sizes.{Sizes}
use Rattle.tally.specs.Pieces.{Good}
use Rattle.tally.specs.Meet.{item_sizes, plus_sizes, bit_of, Small}
use Rattle.tally.specs.Going.{LevelGoing}
use Rattle.quick_items.specs.Items.{Plain}
use Rattle.tally.proofs.Bits.{no_bit}
use Rattle.tally.proofs.ItemTurns.{ItemAt, EntryTold, level_is, piece_stood, piece_room, item_told, good_small, entry_more}
use Rattle.quick_items.proofs.Glances.{quick_meets, met_item}

-- an item at p whose head the code has read, and that may stand there whatever its value
pub record PlainAt (b : Bool) (f : Form) (s : List ℕ) (p : ℕ) (sum : Sizes) (held top low : ℕ) (h : Head) : Type 0 where
  pub going : LevelGoing b f s p sum held top low
  pub here : p < length s
  pub told : ok (item_head h) ≡ head_of (level_of b) (take (length s - p) (drop p s))
  pub plain : Plain b f p top low h.key h.size
  pub bytes : Bytes s
  pub most : length s ≤ 8192

module _ {b : Bool} {f : Form} {s : List ℕ} {p : ℕ} {sum : Sizes} {held top low : ℕ} {h : Head} (i : PlainAt b f s p sum held top low h) where
  quick : items.Glanced (level_of b) f h.key h.size (get_or s (p + (h.used + h.width)) 0)
  quick = quick_beyond b f h.key h.size _ i.plain.beyond i.plain.some

  pub plain_item : ItemAt b f s p sum held top low h.key (h.used + h.width) h.size h.size
  plain_item = met_item (record {
    going = i.going;
    here = i.here;
    meets = quick_meets (record { told = rw tail_part at i.told }) quick i.plain.begins;
    new = i.plain.new;
    bytes = i.bytes;
    most = i.most;
  })

  told_so : EntryTold plain_item (Good (item_sizes (level_of b) h.key h.size) (bit_of h.key))
  told_so = item_told plain_item {x = b && eqb h.key 101} refl (rw level_is at quick.no_series) refl

  pub plain_small : (h.key ≤ 16383) × (h.size ≤ 65536)
  plain_small = ((piece_stood plain_item).tag_small, omega (arith, piece_room plain_item, i.most))

  pub plain_next : (p < p + h.used + h.width + h.size) × (p + h.used + h.width + h.size ≤ length s)
  plain_next = (omega (arith, i.plain.some), omega (arith, piece_room plain_item))

  -- z is what the code says of its sizes
  module _ {z : Sizes} (ez : z ≡ item_sizes (level_of b) h.key h.size) where
    pub plain_sums : Small sum × Small z
    plain_sums = rw ez (good_small plain_item told_so refl)

    pub plain_more : {sum' : Sizes} → sum' ≡ plus_sizes sum z → {top' : ℕ} → (top ≤ top') × (h.key ≤ top') → {low' : ℕ} → (low' ≤ low) × (low' ≤ h.key)
        → LevelGoing b f s (p + h.used + h.width + h.size) sum' held top' low'
    plain_more es et el =
        let e : p + h.used + h.width + h.size ≡ p + (h.used + h.width) + h.size = omega arith in
        let bare = sym (or_zero_r held) ∙ ap (bit_or held) (sym (no_bit h.key i.plain.bare)) in
        rw e (entry_more plain_item told_so refl (es ∙ ap (plus_sizes sum) ez) bare et el)
