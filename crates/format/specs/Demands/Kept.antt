-- What an edit keeps, of the packet's tree: every piece but the items that it changes, the lengths around them and the checksum stands as
-- it stood, byte for byte and in order. A piece is an entry of the set, a pack of the series or an item of a pack.
use Rattle.std.specs.Prelude.{◌≡◌, ℕ, ◌+◌, false, List, [], ◌∷◌, ◌++◌, map, ◌⊎◌, length}
use Rattle.format.specs.Coding.{oid_bytes, len_width, fixed}
use Rattle.format.specs.Lists.{has, flat_all}
use Rattle.format.specs.Table.{Form, embedded, standalone, Level, set, pack, rule_of, short}
use Rattle.format.specs.Packet.{Pack, Entry, series, Packet, tag_of_item, id_of_pack, tag_of_entry, under, flat_item, flat_pack, flat_entry, covered, checksum}
use Rattle.format.specs.Edit.{Holder, the_set, target, Change, put, remove, Changes}
use Rattle.format.specs.Valid.{Lies}

-- bytes under their shortest length
abbrev pub brief : List ℕ → List ℕ
brief b = under (len_width (length b)) b

-- what a put item becomes: the value, first shortened, under its shortest length
abbrev pub new_item : Level → ℕ → List ℕ → List ℕ
new_item l tag v = oid_bytes tag ++ brief (short (rule_of l tag) v)

-- these bytes between pieces that stand as they stood
abbrev pub between : {X : Type 0} → (X → List ℕ) → List X → List X → List ℕ → List ℕ
between lay before after b = flat_all lay before ++ (b ++ flat_all lay after)

-- a set's bytes as a packet: as they are, or under the key and the shortest outer length, with a fresh checksum
abbrev pub shut : Form → List ℕ → List ℕ
shut embedded b = b
shut standalone b = let front = covered (len_width (length b + 4)) b in front ++ fixed 2 (checksum front)

-- of the pieces xs, x is the one with this key, a tag or an id; the others stand before it and after it
pub record At {X : Type 0} (key : X → ℕ) (k : ℕ) (xs before : List X) (x : X) (after : List X) : Type 0 where
  pub parts : xs ≡ before ++ (x ∷ after)
  pub key_is : key x ≡ k

-- where a target's pack stands: in the series, and the series in the set
pub record PackAt (i : ℕ) (es : List Entry) : Type 0 where
  pub before : List Entry
  pub after : List Entry
  pub width : ℕ
  pub packs : List Pack
  pub series_at : At tag_of_entry 101 es before (series width packs) after
  pub earlier : List Pack
  pub later : List Pack
  pub it : Pack
  pub pack_at : At id_of_pack i packs earlier it later

-- the set's bytes with these items in that pack, the lengths around them shortest
abbrev pub around : {i : ℕ} {es : List Entry} → PackAt i es → List ℕ → List ℕ
around {i} p items =
    between flat_entry p.before p.after (oid_bytes 101 ++ brief (between flat_pack p.earlier p.later (brief (oid_bytes i ++ items))))

-- ---- one level, of a pack or of the set: its pieces, each with its tag and its bytes

abbrev pub Piece : Type 0
Piece = ℕ × List ℕ

abbrev pub tag_of_piece : Piece → ℕ
tag_of_piece p = p.0

abbrev pub bytes_of_piece : Piece → List ℕ
bytes_of_piece p = p.1

abbrev pub new_piece : Level → ℕ → List ℕ → Piece
new_piece l tag v = (tag, new_item l tag v)

-- the piece with this tag exchanged for these; the others stand as they stood, before it and after it
pub record Exchanged (tag : ℕ) (new was now : List Piece) : Type 0 where
  pub before : List Piece
  pub bytes : List ℕ
  pub after : List Piece
  pub was_so : was ≡ before ++ ((tag, bytes) ∷ after)
  pub now_so : now ≡ before ++ (new ++ after)

-- a piece put: in the place of the one with its tag or, if there is none, at the level's end
abbrev pub PutPiece : Piece → List Piece → List Piece → Type 0
PutPiece p was now = Exchanged (tag_of_piece p) (p ∷ []) was now ⊎ ((has (tag_of_piece p) (map tag_of_piece was) ≡ false) × (now ≡ was ++ (p ∷ [])))

-- one change: at the piece with the tag; a put, if there is none, at the level's end
abbrev pub Step : Level → ℕ × Change → List Piece → List Piece → Type 0
Step l (tag, put v) was now =
    Exchanged tag (new_piece l tag v ∷ []) was now ⊎ ((has tag (map tag_of_piece was) ≡ false) × (now ≡ was ++ (new_piece l tag v ∷ [])))
Step l (tag, remove) was now = Exchanged tag [] was now

-- one change after the other
abbrev pub Steps : Level → Changes → List Piece → List Piece → Type 0
Steps l [] was now = now ≡ was
Steps l (c ∷ cs) was now = (next : List Piece) × Step l c was next × Steps l cs next now

pub record LevelKept {X : Type 0} (l : Level) (key : X → ℕ) (lay : X → List ℕ) (cs : Changes) (xs : List X) (new : List ℕ) : Type 0 where
  pub pieces : List Piece
  pub steps : Steps l cs (map (λ x. (key x, lay x)) xs) pieces
  pub now : new ≡ flat_all bytes_of_piece pieces

-- the same in a target's pack
pub record TargetKept (i : ℕ) (cs : Changes) (es : List Entry) (new : List ℕ) : Type 0 where
  pub place : PackAt i es
  pub items : List ℕ
  pub in_pack : LevelKept pack tag_of_item flat_item cs place.it.items items
  pub now : new ≡ around place items

abbrev pub SetKept : Holder → Changes → List Entry → List ℕ → Type 0
SetKept the_set cs es new = LevelKept set tag_of_entry flat_entry cs es new
SetKept (target i) cs es new = TargetKept i cs es new

-- s is a valid packet, of the one tree that lies so, and b is that tree's bytes with those changes
pub record Kept (f : Form) (h : Holder) (cs : Changes) (s b : List ℕ) : Type 0 where
  pub packet : Packet
  pub lies : Lies f s packet
  pub body : List ℕ
  pub kept : SetKept h cs packet.entries body
  pub now : b ≡ shut f body
