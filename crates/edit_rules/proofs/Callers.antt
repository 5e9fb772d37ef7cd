-- What a caller needs: the call at the set of a packet that was checked, what is put at the cuts, and a value that is longer than any packet.
use mathlib.Core.Path.{◌≡◌, refl, sym, ap, ◌∙◌, subst}
use Prim.Native.Nat.{ℕ, ◌+◌, ◌≤◌, ◌<◌}
use native.Mathlib.Omega.{arith}
use mathlib.Core.Bool.{Bool, true, false}
use mathlib.Core.List.{List, map}
use lib.ListN.{length}
use Rattle.format.specs.Answer.{ok, ◌>>=◌}
use Rattle.format.specs.Coding.{Bytes}
use Rattle.format.specs.Table.{Form, Level, set, pack}
use Rattle.format.specs.Packet.{Entry, Packet, closed}
use Rattle.format.specs.Read.{unsealed, parse}
use Rattle.format.specs.Sheet.{Sheet, part_of, content}
use Rattle.format.specs.Calls.{packed}
use Rattle.format.specs.Edit.{Holder, Changes, edit_rules, edit_entries, edit_packet, edit}
use Rattle.format.specs.Valid.{SheetValid}
use Rattle.format.proofs.Reading.Packets.{parse_says}
use Rattle.format.proofs.Sheets.Content.{content_valid}
use Rattle.items.proofs.Tests.{bind_so}
use Rattle.tally.specs.declared.Sizes.{Sizes}
use Rattle.tally.proofs.Parsed.{Parsed}
use Rattle.check_packet.specs.Checks.{Checked}
use Rattle.check_packet.specs.Checks.{Fine}
use Rattle.check_packet.specs.Meet.{checked_of}
use Rattle.check_packet.proofs.Opened.{fine, opened, lent_set, lent_is}
use Rattle.find.specs.declared.Place.{Place}
use Rattle.find.proofs.Callers.{set_at, entries_are}
use Rattle.edit_rules.specs.declared.Cut.{Cut}
use Rattle.edit_rules.specs.declared.Cuts.{Cuts}
use Rattle.edit_rules.specs.Meet.{sheet_of, set_edited}
use Rattle.edit_rules.specs.Cuts.{cut_put, body_size, with_size, CutOf, Cutting, Putting, cut_bytes}
use Rattle.edit_rules.proofs.Items.{put_long, size_more}
use Rattle.edit_rules.proofs.Sizes.{with_long}

-- ---- the call, where the packet is accepted

abbrev sheet_from : Form → List Entry → Sheet
sheet_from f es = record { form = f; parts = map part_of (unsealed es) }

module _ (f : Form) (s : List ℕ) (p : Packet) (k : Parsed f s p) (e : parse f s ≡ ok p) where
  edit_at_set : (h : Holder) (cs : Changes) → edit f h cs s ≡ set_edited f h cs (set_at f s p k)
  unfolding edit edit_packet content set_edited
  edit_at_set h cs =
      bind_so _ _ p e
      ∙ ap (λ q. edit_rules h cs (content q) >>= λ _. packed (edit_packet h cs q)) k.packet_is
      ∙ ap (λ es. edit_rules h cs (sheet_from f es) >>= λ _. packed (closed f (edit_entries h cs (unsealed es)))) (sym (entries_are f s p k))

  sheet_at_set : Bytes s → SheetValid (sheet_of f (set_at f s p k))
  unfolding content
  sheet_at_set b =
      subst SheetValid (ap content k.packet_is ∙ ap (sheet_from f) (sym (entries_are f s p k))) (content_valid p (parse_says f s p b e).valid)

module _ (f : Form) (s : List ℕ) {c : Checked} (ec : c ≡ checked_of (parse f s)) (b : Bytes s) {a : Sizes} {k : ℕ} (t : c ≡ Fine a k) where
  pub edit_is : (h : Holder) (cs : Changes) → edit f h cs s ≡ set_edited f h cs (lent_set f s ec b t)
  edit_is h cs = rw (lent_is f s ec b t) (edit_at_set f s (fine f s ec b t).0 (opened f s ec b t) (fine f s ec b t).1 h cs)

  -- the set that is lent says what a valid sheet does
  pub sheet_is : SheetValid (sheet_of f (lent_set f s ec b t))
  sheet_is = rw (lent_is f s ec b t) (sheet_at_set f s (fine f s ec b t).0 (opened f s ec b t) (fine f s ec b t).1 b)

-- ---- what is put at the cuts

with_more : (l : Level) (p : Place) (n : ℕ) → n ≤ with_size l p n
unfolding with_size
with_more set p n = omega arith
with_more pack p n = omega arith

-- one that puts more bytes than a packet may have
item_long : (c : Cut) (x : List ℕ) → CutOf c x → 8192 < c.size → 8192 < length (cut_put c x)
item_long c x h l = go c.removal refl
  where
    go : (r : Bool) → c.removal ≡ r → 8192 < length (cut_put c x)
    go true e = absurd (omega (arith, l, h.none e))
    go false e = omega (arith, l, put_long c.removal c.tag x c.size h.some, size_more c.removal c.tag c.size e)

module _ (l : Level) (s : List ℕ) (k : Cuts) (v w : List ℕ) (q : Cutting l s k v w) where
  pub cuts_put : length s ≤ 8192 → k.lo.size ≤ 8192 → k.hi.size ≤ 8192 → Putting l s k v w
  cuts_put g bv bw = record {
    short = g;
    spans = q.spans;
    low_small = (q.low.tag_high, bv);
    low_some = q.low.some;
    high_small = (q.high.tag_high, bw);
    high_some = q.high.some;
  }

  items_less : length (cut_put k.lo v) + length (cut_put k.hi w) ≤ length (cut_bytes l s k v w)
  items_less =
      let m = body_size k (length (cut_put k.lo v)) (length (cut_put k.hi w)) in
      let e : length (cut_put k.lo v) + length (cut_put k.hi w) ≤ m = omega arith in
      omega (arith, e, with_more l k.place m, with_long s k q.spans (cut_put k.lo v) (cut_put k.hi w))

  pub long_low : 8192 < k.lo.size → 8192 < length (cut_bytes l s k v w)
  long_low g = omega (arith, items_less, item_long k.lo v q.low g)

  pub long_high : 8192 < k.hi.size → 8192 < length (cut_bytes l s k v w)
  long_high g = omega (arith, items_less, item_long k.hi w q.high g)
