-- The call `write`, case by case: a refusal, a packet over its limit, too little room, and the packet written.
use mathlib.Core.Path.{◌≡◌, refl, sym, ap, ◌∙◌}
use Prim.Native.Nat.{ℕ, ◌+◌, ◌-◌, ◌≤◌, ◌<◌}
use native.Mathlib.Omega.{arith}
use mathlib.Core.Bool.{Bool, true}
use mathlib.Core.List.{List, [], map}
use lib.ListN.{length, take, drop, length-drop}
use lib.Seq.{sets}
use borrow.Rule.Slice.PartMut.{put_mid}
use Rattle.format.specs.Answer.{Ans, ok, refused}
use Rattle.format.specs.Coding.{Bytes}
use Rattle.format.specs.Lists.{flat_all}
use Rattle.format.specs.Table.{Form, embedded, standalone, set, is_alone}
use Rattle.format.specs.Packet.{Entry, flat_entry, flat, closed}
use Rattle.format.specs.Read.{limit}
use Rattle.format.specs.Sheet.{Sheet, unsheet}
use Rattle.format.specs.Calls.{entry_of, packet_of, packed, write}
use Rattle.format.specs.Room.{leaves}
use Rattle.items.specs.Meet.{form_of}
use Rattle.items.proofs.Tests.{bind_so, bind_not}
use Rattle.coding.proofs.Rooms.{tail_part}
use Rattle.tally.specs.Meet.{total, weight_of_part}
use Rattle.check_sheet.specs.Sheets.{Sheeted, Fine, Wrong}
use Rattle.check_sheet.specs.Meet.{sheeted_of}
use Rattle.check_sheet.proofs.Sizings.{packet_large, inner_less}
use Rattle.stores.proofs.Puts.{Puts}
use Rattle.frames.specs.Meet.{frame_size, open_bytes, seal_bytes}
use Rattle.write_packet.specs.Meet.{records_normal}
use Rattle.write_packet.specs.Writing.{RecordsAsked, RecordsLeft}
use Rattle.write_packet.proofs.Sheet.{SheetRead, sheet_read, packet_whole, parts_ran, inner_parts}
use Rattle.answers.specs.Meet.{Answer, left_of, answer_of}
use Rattle.answers.proofs.Leaving.{left_refused}
use Rattle.answers.proofs.Framed.{Fits, open_asked, rest_from, rest_room, entries_end, close_asked, all_written}
use Rattle.answers.proofs.Packing.{Packs, packs_long, packs_short, packs_fit, packs_done, entries_small}
use Rattle.write.specs.Meet.{sheet_refusal}

same_form : (f : Form) → form_of (is_alone f) ≡ f
same_form embedded = refl
same_form standalone = refl

wrong_read : (x : Ans Sheet) (n k : ℕ) → Wrong n k ≡ sheeted_of x → x ≡ refused n k
wrong_read (ok t) n k e = absurd (let z : ◌≡◌ {A = ℕ} 0 1 = cc in omega arith)
wrong_read (refused m j) n k e = let a : m ≡ n = cc in let b : j ≡ k = cc in ap (λ x. refused x j) a ∙ ap (refused n) b

pub write_refused : (s : List ℕ) {c : Sheeted} → c ≡ sheeted_of (unsheet s) → (lent : List ℕ) {n k : ℕ} {r : Answer} → c ≡ Wrong n k → r ≡ sheet_refusal c → left_of r lent ≡ leaves lent (write s)
unfolding write
write_refused s ec lent {n = n} {k = k} t e = left_refused lent (bind_not (unsheet s) _ n k (wrong_read (unsheet s) n k (sym t ∙ ec))) (e ∙ ap sheet_refusal t)

fine_read : (x : Ans Sheet) (a : Bool) (n i : ℕ) → Fine a n i ≡ sheeted_of x → (t : Sheet) × (x ≡ ok t) × (sheeted_of (ok t) ≡ Fine a n i)
fine_read (ok t) a n i e = (t, refl, sym e)
fine_read (refused m j) a n i e = absurd (let z : ◌≡◌ {A = ℕ} 0 1 = cc in omega arith)

-- a sheet that the check found fine: its form, the bytes of its packet's entries, and those of its series' packs
pub record FoundFine (s : List ℕ) : Type 0 where
  pub said : Sheeted
  pub alone : Bool
  pub normal : ℕ
  pub inner : ℕ
  pub meets : said ≡ sheeted_of (unsheet s)
  pub bytes : Bytes s
  pub told : said ≡ Fine alone normal inner

module _ {s : List ℕ} (w : FoundFine s) where
  pub found : (t : Sheet) × (unsheet s ≡ ok t) × (sheeted_of (ok t) ≡ Fine w.alone w.normal w.inner)
  found = fine_read (unsheet s) w.alone w.normal w.inner (sym w.told ∙ w.meets)

  abbrev pub sheet : Sheet
  sheet = found.0

  read : unsheet s ≡ ok sheet
  read = found.1

  sizes : sheeted_of (ok sheet) ≡ Fine w.alone w.normal w.inner
  sizes = found.2

  abbrev pub es : List Entry
  es = map entry_of sheet.parts

  form_is : form_of w.alone ≡ sheet.form
  form_is = let e : is_alone sheet.form ≡ w.alone = (let q = sizes in cc) in ap form_of (sym e) ∙ same_form sheet.form

  entries : length (flat_all flat_entry es) ≡ w.normal
  entries = let q = sizes in cc

  inner_is : w.inner ≡ (total weight_of_part sheet.parts).inner
  inner_is = let q = sizes in cc

  pub write_large : w.normal ≤ 1048576
  write_large = omega (arith, entries, packet_large s sheet w.bytes read)

  packed_of : write s ≡ packed (packet_of sheet)
  unfolding write
  packed_of = bind_so (unsheet s) _ sheet read

  packet_is : flat (packet_of sheet) ≡ flat (closed (form_of w.alone) es)
  unfolding packet_of
  packet_is = ap (λ f. flat (closed f es)) (sym form_is)

  pub write_packs : {size : ℕ} → size ≡ frame_size (form_of w.alone) w.normal → Packs (write s) (form_of w.alone) es w.normal size
  write_packs ez = record { packet = packet_of sheet; answers = packed_of; closes = packet_is; entries = entries; frame = ez }

  -- what the walk that writes is asked for: the parts begin at 3
  abbrev pub lent_parts : List ℕ
  lent_parts = take (length s - 3) (drop 3 s)

  parts_read : SheetRead s sheet
  parts_read = sheet_read s sheet w.bytes read

  pub parts_from : 3 ≤ length s
  parts_from = parts_read.three

  pub written_is : records_normal set (form_of w.alone) lent_parts ≡ flat_all flat_entry es
  written_is = rw (tail_part 3 s, form_is) (sym (packet_whole parts_read))

  module _ (small : w.normal ≤ 8192) where
    pub parts_asked : {n : ℕ} → length (records_normal set (form_of w.alone) lent_parts) ≤ n → RecordsAsked w.inner true (form_of w.alone) lent_parts n
    parts_asked h = (
      rw (tail_part 3 s, length-drop) (omega (arith, parts_read.most)),
      rw (tail_part 3 s, form_is) (parts_ran parts_read),
      omega (arith, inner_is, inner_less s sheet w.bytes read, entries),
      rw (tail_part 3 s, form_is) (inner_parts parts_read inner_is),
      h,
      omega (arith, ap length written_is, entries),
    )

-- ---- the same at the places of the code: found fine, its size known, within the limit, with room, opened, and with its entries written

module _ (s : List ℕ) {a : Bool} {n i : ℕ} (e : Fine a n i ≡ sheeted_of (unsheet s)) (b : Bytes s) where
  abbrev pub it : FoundFine s
  it = record { said = _; alone = a; normal = n; inner = i; meets = e; bytes = b; told = refl }

  pub size_asked : n ≤ 1048576
  size_asked = write_large it

  pub parts_begin : 3 ≤ length s
  parts_begin = parts_from it

  module _ {size : ℕ} (ez : size ≡ frame_size (form_of a) n) (lent : List ℕ) where
    packs : Packs (write s) (form_of a) (es it) n size
    packs = write_packs it ez

    pub over_limit : 8192 < size → {r : Answer} → r ≡ answer_of 1 0 → left_of r lent ≡ leaves lent (write s)
    over_limit h er = packs_long packs lent h er

    module _ (small : size ≤ 8192) where
      pub no_room : length lent < size → {r : Answer} → r ≡ answer_of 16 size → left_of r lent ≡ leaves lent (write s)
      no_room h er = packs_short packs lent small h er

      module _ (room : size ≤ length lent) where
        fits : Fits (form_of a) (es it) lent n size
        fits = packs_fit packs lent small room

        pub opening : (n ≤ 1048576) × (length (open_bytes (form_of a) n) ≤ length lent)
        opening = open_asked fits

        module _ {k : ℕ} {out : List ℕ} (eo : (k ≡ length (open_bytes (form_of a) n)) × (out ≡ sets lent 0 (open_bytes (form_of a) n))) where
          pub entries_from : k ≤ length out
          entries_from = rest_from fits eo

          pub entries_asked : RecordsAsked i true (form_of a) (lent_parts it) (length (take (length out - k) (drop k out)))
          entries_asked = parts_asked it (entries_small packs lent small) (rest_room fits eo (written_is it))

          module _ {m : ℕ} {o : List ℕ} (left : RecordsLeft i (lent_parts it) (take (length out - k) (drop k out)) m o) where
            pub entries_to : k + m ≤ 8192
            entries_to = entries_end fits eo (written_is it) (left _ entries_asked)

            pub closing : (k + m + length (seal_bytes (form_of a) []) ≤ length (put_mid k (length out - k) out o)) × (k + m + length (seal_bytes (form_of a) []) ≤ 8192)
            closing = close_asked fits eo (written_is it) (left _ entries_asked)

            pub closed_left : {j : ℕ} {last : List ℕ} → Puts (put_mid k (length out - k) out o) (k + m) (seal_bytes (form_of a) (take (k + m) (put_mid k (length out - k) out o))) j last
                → left_of (answer_of 0 size) last ≡ leaves lent (write s)
            closed_left p = packs_done packs lent small room (all_written fits eo (written_is it) (left _ entries_asked) p) refl
