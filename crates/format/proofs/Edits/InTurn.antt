-- Changes accepted one after the other: made at once they are let through, and the packet is the same.
use mathlib.Core.Path.{◌≡◌, refl, sym, ap, ◌∙◌, subst}
use Prim.Native.Nat.{ℕ}
use mathlib.Core.List.{List, [], ◌∷◌, ◌++◌}
use lib.Dec.{eqb}
use Rattle.format.specs.Answer.{ok}
use Rattle.format.specs.Table.{pack}
use Rattle.format.specs.Packet.{Item, Pack, Entry, plain, series, Packet, tag_of_item, tag_of_entry, closed}
use Rattle.format.specs.Sheet.{Sheet}
use Rattle.format.specs.Calls.{pack_with, series_with}
use Rattle.format.specs.Edit.{Holder, the_set, target, Changes, changed, applied, edit_sheet, edit_rules, in_pack, is_series, in_entry, edit_entries, edit_packet}
use Rattle.format.specs.Demands.Demand3.{Distinct}
use Rattle.format.proofs.Words.Answers.{ok_inj}
use Rattle.format.proofs.Words.Changes.{on_on, changed_keys}
use Rattle.format.proofs.Words.Keys.{all_both}
use Rattle.format.proofs.Sheets.Normal.{closed_form, closed_entries}
use Rattle.format.proofs.Edits.Applied.{keys_after}
use Rattle.format.proofs.Edits.Rules.{Presents, rules_then, rules_give}
use Rattle.format.proofs.Edits.Results.{an_item, an_entry, pack_key}
use Rattle.format.proofs.Edits.Allowed.{distinct_follows, tags_after}

applied_both : {X : Type 0} (key : X → ℕ) (make : ℕ → List ℕ → X) (cs ds : Changes) (xs : List X) → applied key make ds (applied key make cs xs) ≡ applied key make (cs ++ ds) xs
unfolding applied
applied_both key make [] ds xs = refl
applied_both key make ((tag, c) ∷ cs) ds xs = applied_both key make cs ds (changed key make tag c xs)

-- ---- the packet

module _ (cs ds : Changes) where
  pack_both : (p : Pack) → in_pack ds (in_pack cs p) ≡ in_pack (cs ++ ds) p
  unfolding in_pack pack_with
  pack_both p = ap (λ (is : List Item). pack_with p.id is) (applied_both tag_of_item (an_item pack) cs ds p.items)

  entry_both : (i : ℕ) (e : Entry) → in_entry i ds (in_entry i cs e) ≡ in_entry i (cs ++ ds) e
  unfolding in_entry series_with
  entry_both i (plain x) = refl
  entry_both i (series w ps) =
      ap series_with (on_on (λ p. eqb p.id i) (in_pack cs) (in_pack ds) (in_pack (cs ++ ds)) (λ p z. ap (λ k. eqb k i) (pack_key cs p) ∙ z) pack_both ps)

  series_stays : (i : ℕ) (e : Entry) → is_series (in_entry i cs e) ≡ is_series e
  unfolding in_entry series_with
  series_stays i (plain x) = refl
  series_stays i (series w ps) = refl

  entries_both : (h : Holder) (es : List Entry) → edit_entries h ds (edit_entries h cs es) ≡ edit_entries h (cs ++ ds) es
  unfolding edit_entries
  entries_both the_set es = applied_both tag_of_entry an_entry cs ds es
  entries_both (target i) es = on_on is_series (in_entry i cs) (in_entry i ds) (in_entry i (cs ++ ds)) (λ e z. series_stays i e ∙ z) (entry_both i) es

  pub packet_both : (h : Holder) (p : Packet) → edit_packet h ds (edit_packet h cs p) ≡ edit_packet h (cs ++ ds) p
  unfolding edit_packet
  packet_both h p =
      let es : List Entry = edit_entries h cs p.entries in
      ap (λ f. closed f (edit_entries h ds (closed p.form es).entries)) (closed_form p.form es)
      ∙ ap (λ x. closed p.form (edit_entries h ds x)) (closed_entries p.form es)
      ∙ ap (closed p.form) (entries_both h p.entries)

-- ---- the rules

presents_both : (cs ds : Changes) (tags : List ℕ) → Presents cs tags → Presents ds (keys_after cs tags) → Presents (cs ++ ds) tags
unfolding applied
presents_both [] ds tags p q = q
presents_both ((tag, c) ∷ cs) ds tags p q = (p.0, presents_both cs ds (changed_keys tag c tags) p.1 q)

pub rules_both : (h : Holder) (cs ds : Changes) (s : Sheet) → Distinct h (cs ++ ds) → (u w : Unit {0}) → edit_rules h cs s ≡ ok u → edit_rules h ds (edit_sheet h cs s) ≡ ok w
    → edit_rules h (cs ++ ds) s ≡ ok tt
unfolding edit_sheet
rules_both h cs ds s d u w e₁ e₂ =
    rules_then h cs s u e₁ λ tags et t _.
    rules_then h ds (edit_sheet h cs s) w e₂ λ after ea t₂ en.
    let z : after ≡ keys_after cs tags = ok_inj _ _ (sym ea ∙ tags_after h cs s.parts tags et) in
    rules_give h (cs ++ ds) s tags et
    (record {
      asked = all_both _ cs ds t.asked t₂.asked;
      follow = distinct_follows h (cs ++ ds) d;
      present = presents_both cs ds tags t.present (subst (Presents ds) z t₂.present);
    })
    (rw (← applied_both (λ k. k) (λ t v. t) cs ds tags, ← z) en)
