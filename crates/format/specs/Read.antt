-- Reading: bytes to a packet's tree, or the first fault (document 01, Refusal numbers: Reading order).
use Rattle.std.specs.Prelude.{ℕ, ◌+◌, ◌-◌, true, false, not, ◌&&◌, ◌||◌, List, [], map, length, take, drop, leb, eqb}
use Rattle.format.specs.Answer.{Ans, ok, Got, got, ◌>>=◌, need, after}
use Rattle.format.specs.Coding.{bytes_number, tag_of, id_of, len_of}
use Rattle.format.specs.Table.{Form, embedded, standalone, Level, set, pack, is_set, item_rules, ended}
use Rattle.format.specs.Lists.{has, same, take_out}
use Rattle.format.specs.Run.{run, always}
use Rattle.format.specs.Packet.{Item, Pack, Entry, plain, series, Packet, tag_of_item, id_of_pack, tag_of_entry, the_key, checksum}

-- ---- one item

-- what stands before an item's value: its tag, how many bytes its length takes, where the value begins, and how long it is
pub record Head : Type 0 where
  pub tag : ℕ
  pub width : ℕ
  pub from : ℕ
  pub size : ℕ

-- 3, 4 (tag), 3, 5 (length), 6
unfoldable pub head_of : Level → List ℕ → Ans Head
head_of l s = do
  t ← tag_of s
  n ← len_of (drop t.used s)
  _ ← need (not (is_set l && eqb t.val 1) || eqb n.used 1) 5
  _ ← need (leb (t.used + n.used + n.val) (length s)) 6
  ok (record { tag = t.val; width = n.used; from = t.used + n.used; size = n.val })

unfoldable pub item : Level → Form → List ℕ → List ℕ → Ans (Got Item)
item l f seen s = do
  h ← head_of l s
  let v = take h.size (drop h.from s)
  _ ← item_rules l f seen h.tag (eqb (h.from + h.size) (length s)) v
  ok (got (record { tag = h.tag; width = h.width; value = v }) (h.from + h.size))

-- ---- one pack

-- what stands before a pack's items: how many bytes its length takes, what it says, the id, and how many bytes that takes
pub record PackHead : Type 0 where
  pub width : ℕ
  pub size : ℕ
  pub id : ℕ
  pub used : ℕ

-- 3, 5, 6, 3, 8
unfoldable pub pack_head : List ℕ → Ans PackHead
pack_head s = do
  n ← len_of s
  _ ← need (leb (n.used + n.val) (length s)) 6
  i ← id_of (take n.val (drop n.used s))
  ok (record { width = n.used; size = n.val; id = i.val; used = i.used })

-- 10, items, 14
unfoldable pub one_pack : Form → List ℕ → List ℕ → Ans (Got Pack)
one_pack f seen s = do
  h ← pack_head s
  _ ← need (not (has h.id seen)) 10
  is ← after (h.width + h.used) (run always tag_of_item (item pack f) (drop h.used (take h.size (drop h.width s))))
  _ ← ended f (map tag_of_item is.val)
  ok (got (record { width = h.width; id = h.id; items = is.val }) (h.width + h.size))

-- ---- a set

-- a set's item: tag 101 is read as a series
unfoldable pub deepen : Form → Got Item → Ans (Got Entry)
deepen f i =
    elim (eqb i.val.tag 101) [
      | true ↦ (after (i.used - length i.val.value) (run always id_of_pack (one_pack f) i.val.value) >>= λ ps.
          ok (got (series i.val.width ps.val) i.used))
      | false ↦ ok (got (plain i.val) i.used)
    ]

unfoldable pub entry : Form → List ℕ → List ℕ → Ans (Got Entry)
entry f seen s = item set f seen s >>= λ i. deepen f i

-- ---- the packet

unfoldable pub limit : ℕ
limit = 8192

-- the key and the outer length: how many bytes that takes
unfoldable pub opening : Form → List ℕ → Ans ℕ
opening embedded s = ok 0
opening standalone s = do
  _ ← need (same (take 16 s) the_key) 2
  n ← len_of (drop 16 s)
  _ ← need (eqb (16 + n.used + n.val) (length s)) 6
  ok n.used

-- where the set begins, under an outer length of w bytes
abbrev pub start : Form → ℕ → ℕ
start embedded w = 0
start standalone w = 16 + w

-- the entries but the checksum
unfoldable pub unsealed : List Entry → List Entry
unsealed es = take_out (λ e. eqb (tag_of_entry e) 1) es

-- 14, then 15; the checksum's two bytes are the last there are
unfoldable pub closing : Form → List ℕ → List Entry → Ans (List ℕ)
closing embedded s es = ok []
closing standalone s es = do
  _ ← after (length s) (need (has 1 (map tag_of_entry es)) 14)
  let sum = drop (length s - 2) s
  _ ← after (length s - 4) (need (eqb (checksum (take (length s - 2) s)) (bytes_number sum)) 15)
  ok sum

unfoldable pub parse : Form → List ℕ → Ans Packet
parse f s = do
  _ ← need (leb (length s) limit) 1
  w ← opening f s
  es ← after (start f w) (run always tag_of_entry (entry f) (drop (start f w) s))
  sum ← closing f s es.val
  ok (record { form = f; width = w; entries = unsealed es.val; sum = sum })
