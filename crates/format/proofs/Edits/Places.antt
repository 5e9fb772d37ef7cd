-- Where the target that an edit names stands in the packet's tree, and its tags, in the packet and in what it says.
use mathlib.Core.Path.{◌≡◌, refl, sym, ap, ◌∙◌}
use Prim.Native.Nat.{ℕ}
use mathlib.Core.Bool.{false}
use mathlib.Core.List.{List, ◌∷◌, ◌++◌, map}
use lib.Dec.{eqb}
use Rattle.format.specs.Answer.{Ans, ok, refused}
use Rattle.format.specs.Lists.{ask_hit}
use Rattle.format.specs.Table.{Form, pack}
use Rattle.format.specs.Packet.{Pack, Entry, plain, series, tag_of_item, id_of_pack, tag_of_entry}
use Rattle.format.specs.Sheet.{tag_of_val, tag_of_part, val_of, target_of, part_of}
use Rattle.format.specs.Calls.{series_with}
use Rattle.format.specs.Edit.{Holder, the_set, target, Changes, is_targets, target_tags, tags_at, in_pack, is_series, in_entry, edit_entries}
use Rattle.format.specs.Valid.{Together, PackValid, EntryValid}
use Rattle.format.specs.Demands.Kept.{PackAt}
use Rattle.format.proofs.Words.Answers.{never, no_bool, ok_inj}
use Rattle.format.proofs.Words.Changes.{map_ask}
use Rattle.format.proofs.Words.Firsts.{First, first_parts, first_all, first_on, first_ask, first_as, ask_then, keyed, first_at, at_first}
use Rattle.format.proofs.Words.Together.{map_keys}
use Rattle.format.proofs.Sheets.Content.{val_tag, part_tag}

pub part_series : (e : Entry) → is_targets (part_of e) ≡ is_series e
unfolding part_of
part_series (plain i) = refl
part_series (series w ps) = refl

no_series : (e : Entry) → eqb (tag_of_entry e) 101 ≡ false → is_series e ≡ false
no_series (plain x) z = refl
no_series (series w ps) z = no_bool (sym z)

-- ---- the tags of a level, in the packet

unfoldable pub entry_tags : ℕ → Entry → Ans (List ℕ)
entry_tags i (plain x) = refused 18 0
entry_tags i (series w ps) = ask_hit (keyed id_of_pack i) (λ p. ok (map tag_of_item p.items)) ps

unfoldable pub tags_in : Holder → List Entry → Ans (List ℕ)
tags_in the_set es = ok (map tag_of_entry es)
tags_in (target i) es = ask_hit is_series (entry_tags i) es

entry_tags_say : (i : ℕ) (e : Entry) → target_tags i (part_of e) ≡ entry_tags i e
unfolding target_tags part_of entry_tags target_of
entry_tags_say i (plain x) = refl
entry_tags_say i (series w ps) =
    map_ask target_of (keyed id_of_pack i) (λ g. eqb g.id i) (λ p. refl) (λ g. ok (map tag_of_val g.vals)) ps
    ∙ ap (λ (g : Pack → Ans (List ℕ)). ask_hit (keyed id_of_pack i) g ps) (λ j p. ok (map_keys (val_of pack) tag_of_item tag_of_val (val_tag pack) p.items j))

-- and in what it says
pub tags_say : (h : Holder) (es : List Entry) → tags_at h (map part_of es) ≡ tags_in h es
unfolding tags_at tags_in
tags_say the_set es = ap ok (map_keys part_of tag_of_entry tag_of_part part_tag es)
tags_say (target i) es =
    map_ask part_of is_series is_targets part_series (target_tags i) es ∙ ap (λ (g : Entry → Ans (List ℕ)). ask_hit is_series g es) (λ j e. entry_tags_say i e j)

-- ---- the place of a target with such tags

pub place_then : {Z : Type 0} (i : ℕ) (es : List Entry) (tags : List ℕ) → tags_in (target i) es ≡ ok tags
    → ((p : PackAt i es) → map tag_of_item p.it.items ≡ tags → Z) → Z
unfolding tags_in entry_tags
place_then {Z} i es tags e k = ask_then is_series (entry_tags i) tags es e λ r q. go r.before r.it r.after r.first q
  where
    go : (before : List Entry) (x : Entry) (after : List Entry) → First is_series es before x after → entry_tags i x ≡ ok tags → Z
    go before (plain x) after s q = never 18 0 tags q
    go before (series w ps) after s q =
        ask_then (keyed id_of_pack i) (λ p. ok (map tag_of_item p.items)) tags ps q λ r z.
        k
        (record {
          before = before;
          after = after;
          width = w;
          packs = ps;
          series_at = record { parts = first_parts s; key_is = refl };
          earlier = r.before;
          later = r.after;
          it = r.it;
          pack_at = first_at id_of_pack i r.first;
        })
        (ok_inj _ _ z)

module _ (f : Form) (i : ℕ) (es : List Entry) (valid : Together tag_of_entry (EntryValid f) es) (p : PackAt i es) where
  series_first : First is_series es p.before (series p.width p.packs) p.after
  series_first = first_as no_series refl (at_first tag_of_entry 101 valid.once p.series_at)

  pub packs_valid : Together id_of_pack (PackValid f) p.packs
  packs_valid = (first_all (EntryValid f) series_first valid.each).packs_valid

  pack_first : First (keyed id_of_pack i) p.packs p.earlier p.it p.later
  pack_first = at_first id_of_pack i packs_valid.once p.pack_at

  pub pack_valid : PackValid f p.it
  pack_valid = first_all (PackValid f) pack_first packs_valid.each

  pub place_tags : tags_in (target i) es ≡ ok (map tag_of_item p.it.items)
  unfolding tags_in entry_tags
  place_tags = first_ask (entry_tags i) series_first ∙ first_ask (λ p. ok (map tag_of_item p.items)) pack_first

  -- the changes, made in that pack
  pub place_edits : (cs : Changes) → edit_entries (target i) cs es ≡ p.before ++ (series_with (p.earlier ++ (in_pack cs p.it ∷ p.later)) ∷ p.after)
  unfolding edit_entries in_entry
  place_edits cs = first_on (in_entry i cs) series_first ∙ ap (λ ps. p.before ++ (series_with ps ∷ p.after)) (first_on (in_pack cs) pack_first)
