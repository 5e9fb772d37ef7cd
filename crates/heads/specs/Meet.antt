-- Where the code of heads meets document 01: what its answers mean.
use Rattle.std.specs.Prelude.{◌≡◌, ℕ, ◌+◌, ◌-◌, ◌≤◌, ◌<◌, Bool, true, false, List, [], ◌∷◌, drop, eqb, Option, Some, None, Result}
use Rattle.format.specs.Answer.{Ans, ok, refused, Got, got}
use Rattle.format.specs.Lists.{none?, has}
use Rattle.format.specs.Table.{Level}
use Rattle.format.specs.Read.{head_of, pack_head}
use Rattle.format.specs.Read as Read
use Rattle.coding.specs.declared.refusals.Refusal.{Refusal}
use Rattle.coding.specs.Refusals.{told}
use Rattle.items.specs.Meet.{level_of}
use Rattle.heads.specs.Records.{peek_record}
use Rattle.heads.specs.declared.Head.{Head}
use Rattle.heads.specs.declared.Look.{Look}
use Rattle.heads.specs.declared.Look.TheVariants.{Packs, Items, Targets, Records}
use Rattle.heads.specs.declared.Next.{Next}

-- a head by its parts
abbrev pub head : (key used width size : ℕ) → Head
head k u w n = record { key = k; used = u; width = w; size = n }

abbrev pub item_head : Head → Read.Head
item_head h = record { tag = h.key; width = h.width; from = h.used + h.width; size = h.size }

abbrev pub pack_head_from : Head → Read.PackHead
pack_head_from h = record { width = h.width; size = h.size; id = h.key; used = h.used }

abbrev pub item_head_of : Result Head Refusal → Ans Read.Head
item_head_of = told item_head

abbrev pub pack_head_of : Result Head Refusal → Ans Read.PackHead
pack_head_of = told pack_head_from

-- a look that may say nothing, at an item's head
abbrev pub LevelHeadIf : Level → Option Head → List ℕ → Type 0
LevelHeadIf l (Some h) s = ok (item_head h) ≡ head_of l s
LevelHeadIf l None s = Unit {0}

-- at one of two bytes, which is the same in every level
abbrev pub ItemHeadIf : Option Head → List ℕ → Type 0
ItemHeadIf h s = (l : Level) → LevelHeadIf l h s

-- the same, at a pack's length in one byte and its id in one or two
abbrev pub PackHeadIf : Option Head → List ℕ → Type 0
PackHeadIf (Some h) s = (ok (pack_head_from h) ≡ pack_head s) × (h.width ≡ 1) × (h.size < 128) × (h.used ≤ 2)
PackHeadIf None s = Unit {0}

-- ---- what was there before

abbrev pub peek_item : Ans Read.Head → Got ℕ
peek_item (ok h) = got h.tag (h.from + h.size)
peek_item (refused n p) = got 0 0

abbrev pub peek_pack : Ans Read.PackHead → Got ℕ
peek_pack (ok h) = got h.id (h.width + h.size)
peek_pack (refused n p) = got 0 0

-- a key and the bytes of all that it heads, none where there is no such thing: in a sheet or in a packet, an id or a tag
unfoldable pub peek : Bool → Bool → Bool → List ℕ → Got ℕ
peek true ids set s = peek_record ids set s
peek false true set s = peek_pack (pack_head s)
peek false false set s = peek_item (head_of (level_of set) s)

-- by what is looked for
abbrev pub peek_by : Look → List ℕ → Got ℕ
peek_by Packs = peek false true false
peek_by (Items set) = peek false false set
peek_by Targets = peek true true false
peek_by (Records set) = peek true false set

abbrev pub next : (key used : ℕ) → Next
next k u = record { key = k; used = u }

-- what a look finds: a key and the bytes of all that it heads, or nothing
abbrev pub Peeked : (List ℕ → Got ℕ) → List ℕ → Option Next → Type 0
Peeked look s (Some n) = (look s ≡ got n.key n.used) × (0 < n.used)
Peeked look s None = look s ≡ got 0 0

-- these keys, in order, head the first p bytes
abbrev pub Heads : (List ℕ → Got ℕ) → List ℕ → ℕ → List ℕ → Type 0
Heads look s p [] = p ≡ 0
Heads look s p (k ∷ ks) = (u : ℕ) × (look s ≡ got k u) × (0 < u) × (u ≤ p) × Heads look (drop u s) (p - u) ks

-- seen are the keys before the place p, none of them above top or below low
pub record Past (look : List ℕ → Got ℕ) (s : List ℕ) (p top low : ℕ) (seen : List ℕ) : Type 0 where
  pub keys : List ℕ
  pub heads : Heads look s p keys
  pub same : (k : ℕ) → has k seen ≡ has k keys
  pub under : (k : ℕ) → top < k → has k seen ≡ false
  pub over : (k : ℕ) → k < low → has k seen ≡ false
  pub first : none? seen ≡ eqb p 0

-- nothing that begins before r has a key that stood before it
abbrev pub Clear : (List ℕ → Got ℕ) → List ℕ → ℕ → Type 0
Clear look s r = (p : ℕ) → p < r → (ks : List ℕ) → Heads look s p ks → has (look (drop p s)).val ks ≡ false
