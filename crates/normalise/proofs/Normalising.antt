-- The call `normalise`, case by case: a refusal, too little room, and the normal form written.
use mathlib.Core.Path.{◌≡◌, refl, sym, ap, ◌∙◌, subst}
use Prim.Native.Nat.{ℕ, ◌+◌, ◌-◌, ◌≤◌, ◌<◌}
use native.Mathlib.Omega.{arith}
use mathlib.Core.Bool.{false}
use mathlib.Core.List.{List, [], map}
use lib.Dec.{eqb}
use lib.ListN.{length, take, drop}
use lib.Seq.{sets}
use borrow.Rule.Slice.PartMut.{put_mid}
use Rattle.format.specs.Answer.{ok}
use Rattle.format.specs.Coding.{Bytes}
use Rattle.format.specs.Lists.{flat_all}
use Rattle.format.specs.Table.{Form, set}
use Rattle.format.specs.Packet.{Entry, Packet, tag_of_entry, flat_entry, flat, closed}
use Rattle.format.specs.Read.{parse}
use Rattle.format.specs.Sheet.{content}
use Rattle.format.specs.Calls.{entry_of, packet_of, packed, normalise}
use Rattle.format.specs.Room.{leaves}
use Rattle.format.proofs.Reading.Packets.{parse_says}
use Rattle.format.proofs.Sheets.Normal.{entries_less}
use Rattle.format.proofs.Sheets.Same.{normal_less, normal_same}
use Rattle.format.specs.Valid.{All}
use Rattle.items.proofs.Tests.{bind_so, bind_not}
use Rattle.tally.specs.declared.Sizes.{Sizes}
use Rattle.tally.specs.Meet.{total, weight_of_entry}
use Rattle.tally.specs.Runs.{Ran, level_run}
use Rattle.tally.proofs.Parsed.{Parsed}
use Rattle.check_packet.specs.Checks.{Checked, Fine, Wrong}
use Rattle.check_packet.specs.Meet.{checked_of}
use Rattle.check_packet.proofs.Closings.{inner_less}
use Rattle.check_packet.proofs.Parsing.{wrong_parsed}
use Rattle.check_packet.proofs.Opened.{fine, opened, set_room, set_ran, set_long, lent_set, lent_is}
use Rattle.stores.specs.Puts.{Fills}
use Rattle.stores.proofs.Puts.{Puts}
use Rattle.frames.specs.Meet.{frame_size, open_bytes, seal_bytes}
use Rattle.write_normal.specs.Meet.{level_normal, LevelAsked, InnerRun}
use Rattle.write_normal.proofs.Packet.{normal_whole, inner_run}
use Rattle.answers.specs.Meet.{Answer, left_of, answer_of, refusal_of}
use Rattle.answers.proofs.Leaving.{left_refused}
use Rattle.answers.proofs.Framed.{Fits, open_asked, rest_from, rest_room, entries_end, close_asked, all_written}
use Rattle.answers.proofs.Packing.{Packs, size_is, packs_short, packs_fit, packs_done}

-- a packet that the check found fine: its sizes, and where its set begins
pub record FoundFine (f : Form) (s : List ℕ) : Type 0 where
  pub said : Checked
  pub sizes : Sizes
  pub from : ℕ
  pub meets : said ≡ checked_of (parse f s)
  pub bytes : Bytes s
  pub told : said ≡ Fine sizes from

pub normal_refused : (f : Form) (s : List ℕ) {c : Checked} → c ≡ checked_of (parse f s) → (lent : List ℕ) {n k : ℕ} {r : Answer} → c ≡ Wrong n k → r ≡ refusal_of c → left_of r lent ≡ leaves lent (normalise f s)
unfolding normalise
normal_refused f s ec lent {n = n} {k = k} t e = left_refused lent (bind_not (parse f s) _ n k (wrong_parsed f s n k (sym t ∙ ec))) (e ∙ ap refusal_of t)

module _ {f : Form} {s : List ℕ} (w : FoundFine f s) where
  abbrev found : (p : Packet) × (parse f s ≡ ok p) × (checked_of (ok p) ≡ Fine w.sizes w.from)
  found = fine f s w.meets w.bytes w.told

  abbrev packet : Packet
  packet = found.0

  abbrev parts : Parsed f s packet
  parts = opened f s w.meets w.bytes w.told

  abbrev pub es : List Entry
  es = map entry_of (content packet).parts

  normal_form : flat (packet_of (content packet)) ≡ flat (closed f es)
  unfolding packet_of content
  normal_form = ap (λ g. flat (closed g es)) (parse_says f s packet w.bytes found.1).form_is

  packed_of : normalise f s ≡ packed (packet_of (content packet))
  unfolding normalise
  packed_of = bind_so (parse f s) _ packet found.1

  entries : length (flat_all flat_entry es) ≡ w.sizes.normal
  entries = let e = found.2 in cc

  inner : w.sizes.inner ≡ (total (weight_of_entry set) packet.entries).inner
  inner = let e = found.2 in cc

  no_seal : All (λ e. eqb (tag_of_entry e) 1 ≡ false) packet.entries
  no_seal = subst (λ p. All (λ e. eqb (tag_of_entry e) 1 ≡ false) p.entries) (sym parts.packet_is) parts.no_seal

  small : length (flat (closed f es)) ≤ 8192
  small =
      let k = parse_says f s packet w.bytes found.1 in
      omega (arith, ap length normal_form, normal_less packet k.valid, ap length k.lies_flat, parts.short)

  pub normal_small : w.sizes.normal ≤ 8192
  normal_small = omega (arith, entries, entries_less f es, small)

  module _ {size : ℕ} (ez : size ≡ frame_size f w.sizes.normal) where
    pub normal_packs : Packs (normalise f s) f es w.sizes.normal size
    normal_packs = record { packet = packet_of (content packet); answers = packed_of; closes = normal_form; entries = entries; frame = ez }

    -- a normal form is never over the limit
    pub normal_within : size ≤ 8192
    normal_within = omega (arith, size_is normal_packs, small)

    -- of as many bytes it is the packet itself
    pub normal_copied : (lent : List ℕ) → size ≡ length s → {out : List ℕ} → out ≡ sets lent 0 s → out ≡ sets lent 0 (flat (closed f es))
    normal_copied lent e eo =
        let k = parse_says f s packet w.bytes found.1 in
        let n : length (flat (packet_of (content packet))) ≡ length (flat packet) = ap length normal_form ∙ size_is normal_packs ∙ e ∙ sym (ap length k.lies_flat) in
        eo ∙ ap (sets lent 0) (sym k.lies_flat ∙ sym (normal_same packet k.valid n) ∙ normal_form)

  -- what the walk that writes is lent
  abbrev pub lent_set_lem : List ℕ
  lent_set_lem = lent_set f s w.meets w.bytes w.told

  pub set_fits : w.from ≤ length s
  set_fits = set_room f s w.meets w.bytes w.told

  pub set_small : length lent_set_lem ≤ 8192
  set_small = omega (arith, set_long f s w.meets w.bytes w.told)

  pub set_runs : Ran (level_run set f lent_set_lem)
  set_runs = set_ran f s w.meets w.bytes w.told

  -- and what it is asked for
  pub written_is : level_normal set f lent_set_lem ≡ flat_all flat_entry es
  written_is = ap (level_normal set f) (lent_is f s w.meets w.bytes w.told) ∙ sym (normal_whole parts)

  pub inner_asked : (w.sizes.inner ≤ 65536) × InnerRun w.sizes.inner (level_run set f lent_set_lem)
  inner_asked = (
    omega (arith, inner, inner_less packet no_seal, entries, normal_small),
    rw (lent_is f s w.meets w.bytes w.told) (inner_run parts w.bytes inner),
  )

-- ---- the same at the places of the code: found fine, its size known, with room, opened, and with its entries written

module _ (f : Form) (s : List ℕ) {a : Sizes} {k : ℕ} (e : Fine a k ≡ checked_of (parse f s)) (b : Bytes s) where
  abbrev pub it : FoundFine f s
  it = record { said = _; sizes = a; from = k; meets = e; bytes = b; told = refl }

  pub size_asked : a.normal ≤ 1048576
  size_asked = omega (arith, normal_small it)

  pub set_begins : k ≤ length s
  set_begins = set_fits it

  module _ {size : ℕ} (ez : size ≡ frame_size f a.normal) (lent : List ℕ) where
    packs : Packs (normalise f s) f (es it) a.normal size
    packs = normal_packs it ez

    pub no_room : length lent < size → {r : Answer} → r ≡ answer_of 16 size → left_of r lent ≡ leaves lent (normalise f s)
    no_room h er = packs_short packs lent (normal_within it ez) h er

    module _ (room : size ≤ length lent) where
      pub copied_left : size ≡ length s → {out : List ℕ} → out ≡ sets lent 0 s → left_of (answer_of 0 size) out ≡ leaves lent (normalise f s)
      copied_left h eo = packs_done packs lent (normal_within it ez) room (normal_copied it ez lent h eo) refl

      fits : Fits f (es it) lent a.normal size
      fits = packs_fit packs lent (normal_within it ez) room

      pub opening : (a.normal ≤ 1048576) × (length (open_bytes f a.normal) ≤ length lent)
      opening = open_asked fits

      module _ {n : ℕ} {out : List ℕ} (eo : (n ≡ length (open_bytes f a.normal)) × (out ≡ sets lent 0 (open_bytes f a.normal))) where
        pub entries_from : n ≤ length out
        entries_from = rest_from fits eo

        pub entries_asked : LevelAsked set f (lent_set_lem it) a.inner (length (take (length out - n) (drop n out)))
        entries_asked = (set_small it, set_runs it, (inner_asked it).0, (inner_asked it).1, rest_room fits eo (written_is it))

        module _ {m : ℕ} {o : List ℕ} (left : Fills (take (length out - n) (drop n out)) (level_normal set f (lent_set_lem it)) m o) where
          pub entries_to : n + m ≤ 8192
          entries_to = entries_end fits eo (written_is it) left

          pub closing : (n + m + length (seal_bytes f []) ≤ length (put_mid n (length out - n) out o)) × (n + m + length (seal_bytes f []) ≤ 8192)
          closing = close_asked fits eo (written_is it) left

          pub closed_left : {j : ℕ} {last : List ℕ} → Puts (put_mid n (length out - n) out o) (n + m) (seal_bytes f (take (n + m) (put_mid n (length out - n) out o))) j last
              → left_of (answer_of 0 size) last ≡ leaves lent (normalise f s)
          closed_left p = packs_done packs lent (normal_within it ez) room (all_written fits eo (written_is it) left p) refl
