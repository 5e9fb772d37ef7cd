-- A turn of the two walks as the code makes it: the item, or the pack, that it has read.
use Rattle.std.proofs.Common.{◌≡◌, ℕ, ◌-◌, ◌<◌, ◌≤◌, List, Result, Ok, Err, Bool, length, take, drop, ap, refl, arith}
use Rattle.format.specs.Coding.{Bytes}
use Rattle.format.specs.Read.{pack_head}
use Rattle.format.specs.Table.{Form}
use Rattle.coding.specs.declared.refusals.Fault.{Fault}
use Rattle.coding.specs.declared.refusals.Refusal.{Refusal}
use Rattle.coding.specs.Refusals.{number, placed, Short}
use Rattle.heads.specs.declared.Head.{Head}
use Rattle.heads.specs.Meet.{pack_head_of}
use Rattle.tally.specs.declared.Piece.{Piece}
use Rattle.tally.specs.declared.Sizes.{Sizes}
use Rattle.tally.specs.declared.Walked.{Walked}
use Rattle.tally.specs.Meet.{pieced, walked}
use Rattle.tally.specs.Going.{LevelGoing, SeriesGoing, ItemRead}
use Rattle.tally.proofs.Tried.{placed_so}
use Rattle.tally.proofs.ItemTurns.{ItemAt, EntryTold, piece_room}
use Rattle.tally.proofs.PackTurns.{PackAt}

module _ {f : Form} {s : List ℕ} {p : ℕ} {sum : Sizes} {top low : ℕ} where
  pub item_here : {b : Bool} {held : ℕ} → LevelGoing b f s p sum held top low → p < length s → (a : Result Piece Refusal) → ItemRead b f s p top low (pieced a)
      → {q : Result Piece Fault} → q ≡ placed p a → {x : Piece} → q ≡ Ok x → Bytes s → length s ≤ 8192 → ItemAt b f s p sum held top low x.tag x.from x.size x.short
  item_here g h a told eq t bytes most =
      record { going = g; here = h; it = pieced a; told = told; whole = ap pieced (placed_so p a eq t); bytes = bytes; most = most }

  pub pack_here : SeriesGoing f s p sum top low → p < length s → (a : Result Head Refusal) → pack_head_of a ≡ pack_head (take (length s - p) (drop p s))
      → {q : Result Head Fault} → q ≡ placed p a → {x : Head} → q ≡ Ok x → Bytes s → length s ≤ 8192 → PackAt f s p sum top low x.key x.used x.width x.size
  pack_here g h a told eq t bytes most = record { going = g; here = h; it = a; told = told; is = placed_so p a eq t; bytes = bytes; most = most }

-- an entry that was told has a place that can be passed on
pub short_told : {b : Bool} {f : Form} {s : List ℕ} {p : ℕ} {sum : Sizes} {held top low tag from size small : ℕ} (i : ItemAt b f s p sum held top low tag from size small)
    → (y : Result Walked Fault) → EntryTold i (walked y) → Short y p
short_told i (Ok w) k = tt
short_told i (Err e) k = omega (arith, (k.bad (number e.refusal) e.place refl).1, piece_room i, i.most)
