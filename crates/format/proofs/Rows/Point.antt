-- The rows of a valid packet, in turn: each names its own value, from the set's start to the packet's end.
use mathlib.Core.Path.{◌≡◌, refl, sym, ap, ◌∙◌, subst}
use Prim.Native.Nat.{ℕ, suc, ◌+◌, ◌*◌, ◌≤◌}
use native.Mathlib.Omega.{arith}
use mathlib.Core.List.{List, [], ◌∷◌, ◌++◌, append_assoc, append-nil, map}
use lib.ListN.{length, length-append, length-map}
use lib.Seq.{take-append_seam, drop_at}
use Rattle.format.specs.Coding.{oid_bytes, digits, len_bytes}
use Rattle.format.specs.Lists.{flat_all}
use Rattle.format.specs.Table.{Form, embedded, standalone, pack}
use Rattle.format.specs.Packet.{Item, Pack, Entry, plain, series, Packet, under, flat, framed, the_key, covered, flat_item, pack_body, flat_pack, flat_entry}
use Rattle.format.specs.Read.{start}
use Rattle.format.specs.Rows.{Row, row, item_row, item_rows, pack_rows, entry_rows, seal_item, sealed, rows_of}
use Rattle.format.specs.Valid.{All, Framed, ItemValid, PackValid, EntryValid, Valid, Lies}
use Rattle.format.specs.Demands.Rows.{Cell, cell, item_cell, pack_cells, entry_cells, cells_of, part, InTurn}
use Rattle.format.proofs.Words.Flats.{flat_snoc}
use Rattle.format.proofs.Coding.Digits.{length_fixed}
use Rattle.format.proofs.Coding.Lengths.{length_len}
use Rattle.format.proofs.Reading.Items.{item_size_lem}
use Rattle.format.proofs.Reading.Packs.{pack_size}
use Rattle.format.proofs.Reading.Entries.{plain_flat, series_size_lem}
use Rattle.format.proofs.Reading.Seal.{seal_flat}
use Rattle.format.proofs.Reading.Packets.{key_size, covered_is}

-- a part that stands after so many bytes
part_at : (s pre v post : List ℕ) (n : ℕ) → s ≡ pre ++ (v ++ post) → n ≡ length pre → part s n (length v) ≡ v
part_at s pre v post n e l = rw (e, l, drop_at pre (v ++ post) (length pre) refl) (take-append_seam v post)

module _ (s : List ℕ) where
  -- one cell and its row, and what follows from the place `next` on
  turn : (c : Cell) (at offset next : ℕ) (pre post : List ℕ) (cs : List Cell) (rs : List Row) → s ≡ pre ++ ((c.head ++ c.value) ++ post) → at ≡ length pre
      → offset ≡ at + length c.head → next ≡ at + length c.head + c.inside → InTurn s next cs rs
      → InTurn s at (c ∷ cs) (row c.target c.tag offset (length c.value) ∷ rs)
  turn c at offset next pre post cs rs e l o n t =
      (ap (λ x. row c.target c.tag x (length c.value)) o, part_at s pre (c.head ++ c.value) post at e l, subst (λ x. InTurn s x cs rs) n t)

  item_turn : (k at next : ℕ) (pre post : List ℕ) (i : Item) (cs : List Cell) (rs : List Row) → s ≡ pre ++ (flat_item i ++ post) → at ≡ length pre
      → next ≡ at + length (flat_item i) → InTurn s next cs rs → InTurn s at (item_cell k i ∷ cs) (item_row k at i ∷ rs)
  unfolding item_row flat_item
  item_turn k at next pre post i cs rs e l n t =
      turn (item_cell k i) at (at + length (oid_bytes i.tag) + i.width) next pre post cs rs (e ∙ simp append_assoc) l
      (simp (length-append, length_len) (omega arith)) (n ∙ simp (length-append, length_len) (omega arith)) t

  items_turn : (k at next : ℕ) (pre post : List ℕ) (is : List Item) (cs : List Cell) (rs : List Row) → s ≡ pre ++ (flat_all flat_item is ++ post) → at ≡ length pre
      → next ≡ at + length (flat_all flat_item is) → InTurn s next cs rs → InTurn s at (map (item_cell k) is ++ cs) (item_rows k at is ++ rs)
  unfolding item_rows flat_all
  items_turn k at next pre post [] cs rs e l n t = subst (λ x. InTurn s x cs rs) (omega arith) t
  items_turn k at next pre post (i ∷ is) cs rs e l n t =
      let m : ℕ = at + length (flat_item i) in
      item_turn k at m pre (flat_all flat_item is ++ post) i (map (item_cell k) is ++ cs) (item_rows k m is ++ rs) (e ∙ simp append_assoc) l refl
      (items_turn k m next (pre ++ flat_item i) post is cs rs (e ∙ simp append_assoc) (simp length-append (omega arith)) (n ∙ simp length-append (omega arith)) t)

  pack_turn : (k at next : ℕ) (pre post : List ℕ) (p : Pack) (bs cs : List Cell) (qs rs : List Row) → s ≡ pre ++ (flat_pack p ++ post) → at ≡ length pre
      → next ≡ at + length (flat_pack p) → InTurn s next (bs ++ cs) (qs ++ rs)
      → InTurn s at (cell k 0 [] p.width (pack_body p) (length (oid_bytes p.id)) ∷ (map (item_cell k) p.items ++ bs) ++ cs)
      (row k 0 (at + p.width) (length (pack_body p)) ∷ (item_rows k (at + p.width + length (oid_bytes p.id)) p.items ++ qs) ++ rs)
  unfolding flat_pack pack_body
  pack_turn k at next pre post p bs cs qs rs e l n t =
      let id : List ℕ = oid_bytes p.id in
      let v : List ℕ = id ++ flat_all flat_item p.items in
      let o : ℕ = at + p.width + length id in
      let is : List Cell = map (item_cell k) p.items in
      let ws : List Row = item_rows k o p.items in
      let t' = items_turn k o next (pre ++ (len_bytes p.width (length v) ++ id)) post p.items (bs ++ cs) (qs ++ rs) (e ∙ simp append_assoc)
      (simp (length-append, length_len) (omega arith)) (n ∙ simp (length-append, length_len) (omega arith)) t in
      turn (cell k 0 [] p.width v (length id)) at (at + p.width) o pre post ((is ++ bs) ++ cs) ((ws ++ qs) ++ rs) e l (simp length_len) (simp length_len)
      (rw (append_assoc is bs cs, append_assoc ws qs rs) t')

  packs_turn : (k at next : ℕ) (pre post : List ℕ) (ps : List Pack) (cs : List Cell) (rs : List Row) → s ≡ pre ++ (flat_all flat_pack ps ++ post) → at ≡ length pre
      → next ≡ at + length (flat_all flat_pack ps) → InTurn s next cs rs → InTurn s at (pack_cells k ps ++ cs) (pack_rows k at ps ++ rs)
  unfolding pack_rows pack_cells flat_all
  packs_turn k at next pre post [] cs rs e l n t = subst (λ x. InTurn s x cs rs) (omega arith) t
  packs_turn k at next pre post (p ∷ ps) cs rs e l n t =
      let m : ℕ = at + length (flat_pack p) in
      pack_turn k at m pre (flat_all flat_pack ps ++ post) p (pack_cells (suc k) ps) cs (pack_rows (suc k) m ps) rs (e ∙ simp append_assoc) l refl
      (packs_turn (suc k) m next (pre ++ flat_pack p) post ps cs rs (e ∙ simp append_assoc) (simp length-append (omega arith)) (n ∙ simp length-append (omega arith)) t)

  series_turn : (at next : ℕ) (pre post : List ℕ) (w : ℕ) (ps : List Pack) (cs : List Cell) (rs : List Row) → s ≡ pre ++ (flat_entry (series w ps) ++ post) → at ≡ length pre
      → next ≡ at + length (flat_entry (series w ps)) → InTurn s next cs rs
      → InTurn s at (cell 0 101 (oid_bytes 101) w (flat_all flat_pack ps) 0 ∷ pack_cells 1 ps ++ cs) (row 0 101 (at + 1 + w) (length (flat_all flat_pack ps)) ∷ pack_rows 1 (at + 1 + w) ps ++ rs)
  unfolding flat_entry oid_bytes digits
  series_turn at next pre post w ps cs rs e l n t =
      let v : List ℕ = flat_all flat_pack ps in
      let o : ℕ = at + 1 + w in
      turn (cell 0 101 (101 ∷ []) w v 0) at o o pre post (pack_cells 1 ps ++ cs) (pack_rows 1 o ps ++ rs) (e ∙ simp append_assoc) l (simp length_len (omega arith)) (simp length_len (omega arith))
      (packs_turn 1 o next (pre ++ (101 ∷ len_bytes w (length v))) post ps cs rs (e ∙ simp append_assoc)
      (simp (length-append, length_len) (omega arith)) (n ∙ simp (length-append, length_len) (omega arith)) t)

  entries_turn : (at : ℕ) (pre : List ℕ) (es : List Entry) → s ≡ pre ++ flat_all flat_entry es → at ≡ length pre → InTurn s at (entry_cells es) (entry_rows at es)
  unfolding entry_rows entry_cells flat_all
  entries_turn at pre [] e l = l ∙ ap length (sym (append-nil pre) ∙ sym e)
  entries_turn at pre (plain i ∷ es) e l =
      let m : ℕ = at + length (flat_item i) in
      let e₁ : s ≡ pre ++ (flat_item i ++ flat_all flat_entry es) = rw plain_flat at e in
      item_turn 0 at m pre (flat_all flat_entry es) i (entry_cells es) (entry_rows m es) e₁ l refl
      (entries_turn m (pre ++ flat_item i) es (e₁ ∙ simp append_assoc) (simp length-append (omega arith)))
  entries_turn at pre (series w ps ∷ es) e l =
      let x : List ℕ = flat_entry (series w ps) in
      let m : ℕ = at + length x in
      series_turn at m pre (flat_all flat_entry es) w ps (entry_cells es) (entry_rows m es) e l refl
      (entries_turn m (pre ++ x) es (e ∙ simp append_assoc) (simp length-append (omega arith)))

-- a standalone packet's bytes are its key, its length and all its entries, the checksum with them
alone_bytes : (w : ℕ) (es : List Entry) (c : List ℕ) → length c ≡ 2 → framed standalone w (flat_all flat_entry es) c ≡ the_key ++ under w (flat_all flat_entry (sealed standalone es c))
unfolding framed sealed
alone_bytes w es c l =
    let b : List ℕ = flat_all flat_entry es in
    let q : flat_all flat_entry (es ++ (plain (seal_item c) ∷ [])) ≡ b ++ (1 ∷ 2 ∷ c) = flat_snoc flat_entry es (plain (seal_item c)) ∙ ap (λ x. b ++ x) (seal_flat c l) in
    sym (covered_is w b c l) ∙ ap (λ x. the_key ++ under w x) (sym q)

embedded_turn : (w : ℕ) (es : List Entry) (c : List ℕ) → InTurn (framed embedded w (flat_all flat_entry es) c) 0 (entry_cells (sealed embedded es c)) (entry_rows 0 (sealed embedded es c))
unfolding framed sealed
embedded_turn w es c = entries_turn (flat_all flat_entry es) 0 [] es refl refl

frame_turn : (f : Form) (w : ℕ) (es : List Entry) (c : List ℕ) → Framed f w (flat_all flat_entry es) c
    → InTurn (framed f w (flat_all flat_entry es) c) (start f w) (entry_cells (sealed f es c)) (entry_rows (start f w) (sealed f es c))
frame_turn embedded w es c g = embedded_turn w es c
frame_turn standalone w es c g =
    let all : List Entry = sealed standalone es c in
    let b : List ℕ = flat_all flat_entry all in
    let l : length c ≡ 2 = rw g.1 (length_fixed 2 _) in
    rw (alone_bytes w es c l)
    (entries_turn (the_key ++ under w b) (16 + w) (the_key ++ len_bytes w (length b)) all (simp append_assoc) (simp (length-append, length_len, key_size)))

rows_turn : (p : Packet) → Valid p → InTurn (flat p) (start p.form p.width) (cells_of p) (rows_of p)
unfolding flat rows_of cells_of
rows_turn p h = frame_turn p.form p.width p.entries p.sum h.framed

-- of the bytes, and in the form, that the packet has
pub lies_turn : (f : Form) (s : List ℕ) (p : Packet) → Lies f s p → InTurn s (start f p.width) (cells_of p) (rows_of p)
lies_turn f s p h =
    subst (λ g. InTurn s (start g p.width) (cells_of p) (rows_of p)) h.form_is
    (subst (λ x. InTurn x (start p.form p.width) (cells_of p) (rows_of p)) h.lies_flat (rows_turn p h.valid))

-- ---- a row has two bytes at least

turn_count : (s : List ℕ) (at : ℕ) (cs : List Cell) (rs : List Row) → InTurn s at cs rs → length rs ≡ length cs
turn_count s at [] [] h = refl
turn_count s at [] (r ∷ rs) h = absurd h
turn_count s at (c ∷ cs) [] h = absurd h
turn_count s at (c ∷ cs) (r ∷ rs) h = ap suc (turn_count s (at + length c.head + c.inside) cs rs h.2)

items_few : (f : Form) (is : List Item) → All (ItemValid pack f) is → 2 * length is ≤ length (flat_all flat_item is)
unfolding flat_all
items_few f [] h = omega arith
items_few f (i ∷ is) h = simp length-append (omega (arith, item_size_lem pack f i h.0, items_few f is h.1))

packs_few : (f : Form) (k : ℕ) (ps : List Pack) → All (PackValid f) ps → 2 * length (pack_cells k ps) ≤ length (flat_all flat_pack ps)
unfolding pack_cells flat_all
packs_few f k [] h = omega arith
packs_few f k (p ∷ ps) h =
    simp (length-append, length-map) (omega (arith, pack_size p h.0.coded, items_few f p.items h.0.items_valid.each, packs_few f (suc k) ps h.1))

entries_few : (f : Form) (es : List Entry) → All (EntryValid f) es → 2 * length (entry_cells es) ≤ length (flat_all flat_entry es)
unfolding entry_cells flat_all
entries_few f [] h = omega arith
entries_few f (plain i ∷ es) h = simp length-append (omega (arith, ap length (plain_flat i), item_size_lem _ f i h.0, entries_few f es h.1))
entries_few f (series w ps ∷ es) h =
    simp length-append (omega (arith, series_size_lem f w ps h.0, packs_few f 1 ps h.0.packs_valid.each, entries_few f es h.1))

cells_snoc : (es : List Entry) (c : List ℕ) → length (entry_cells (es ++ (plain (seal_item c) ∷ []))) ≡ length (entry_cells es) + 1
unfolding entry_cells
cells_snoc [] c = refl
cells_snoc (plain i ∷ es) c = omega (arith, cells_snoc es c)
cells_snoc (series w ps ∷ es) c = simp length-append (omega (arith, cells_snoc es c))

frame_few : (f : Form) (w : ℕ) (es : List Entry) (c : List ℕ) → All (EntryValid f) es → 2 * length (entry_cells (sealed f es c)) ≤ length (framed f w (flat_all flat_entry es) c)
unfolding sealed framed covered
frame_few embedded w es c h = entries_few embedded es h
frame_few standalone w es c h = simp length-append (omega (arith, entries_few standalone es h, cells_snoc es c))

pub rows_few : (p : Packet) → Valid p → 2 * length (rows_of p) ≤ length (flat p)
unfolding flat cells_of
rows_few p h = omega (arith, turn_count (flat p) (start p.form p.width) (cells_of p) (rows_of p) (rows_turn p h), frame_few p.form p.width p.entries p.sum h.entries_valid.each)
