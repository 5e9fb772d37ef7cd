-- The packet: it is accepted exactly when a valid tree lies flat as its bytes.
use mathlib.Core.Path.{◌≡◌, refl, sym, ap, ◌∙◌, subst}
use Prim.Native.Nat.{ℕ, ◌+◌, ◌-◌, ◌≤◌, ◌<◌, ◌^◌}
use native.Mathlib.Omega.{arith}
use mathlib.Core.Bool.{true, false}
use mathlib.Core.List.{List, [], ◌∷◌, ◌++◌, append_assoc, append-nil, map, map-append}
use lib.ListN.{length, take, drop, length-append, length-drop, take-append-drop}
use lib.Seq.{drop-drop, take_at, drop_at}
use lib.Dec.{eqb}
use borrow.Author.Tests.{leb-true, le-leb, eqb-true, eq-eqb}
use Rattle.format.specs.Answer.{ok, Got, ◌>>=◌, need, after}
use Rattle.format.specs.Coding.{Bytes, bytes_number, len_bytes, fixed}
use Rattle.format.specs.Lists.{none?, has, same, flat_all}
use Rattle.format.specs.Table.{Form, embedded, standalone, set, may_begin}
use Rattle.format.specs.Packet.{Entry, plain, Packet, tag_of_entry, under, flat_entry, the_key, covered, framed, flat, checksum}
use Rattle.format.specs.Run.{run, always}
use Rattle.format.specs.Read.{entry, limit, opening, start, unsealed, closing, parse}
use Rattle.format.specs.Rows.{seal_item}
use Rattle.format.specs.Valid.{All, Once, Together, Holds, Begins, EntryValid, Valid, Lies}
use Rattle.format.proofs.Words.Answers.{bind_then, need_then, after_then, after_need_then, ok_inj, no_bool, and_both}
use Rattle.format.proofs.Words.Bytes.{bytes_drop, bytes_right}
use Rattle.format.proofs.Words.Keys.{past, past_has, past_some, fresh_says, once_left, all_map}
use Rattle.format.proofs.Words.Flats.{flat_snoc}
use Rattle.format.proofs.Coding.Digits.{fixed_back, fixed_number, length_fixed}
use Rattle.format.proofs.Coding.Lengths.{length_len, len_back, len_says}
use Rattle.format.proofs.Table.Tags.{begin_later, begin_two, begin_embedded}
use Rattle.format.proofs.Reading.Runs.{Along, along_map, along_fresh, along_snoc, First, ReadsAt, together_along, all_says, all_back}
use Rattle.format.proofs.Reading.Entries.{EntryRead, entry_faithful, entry_stood, entry_reads, entry_stands, entry_not_seal, valid_entry}
use Rattle.format.proofs.Reading.Seal.{SetRead, split, split_embedded, split_alone, begun_alone, seal_flat, seal_read, unseal_all, unseal_none, unseal_seal, has_seal}

pub key_size : length the_key ≡ 16
unfolding the_key
key_size = refl

pub same_eq : (a b : List ℕ) → same a b ≡ true → a ≡ b
unfolding same
same_eq [] [] e = refl
same_eq [] (y ∷ ys) e = no_bool e
same_eq (x ∷ xs) [] e = no_bool e
same_eq (x ∷ xs) (y ∷ ys) e =
    let (p, q) = and_both _ _ e in
    let u : x ≡ y = eqb-true x y p in
    let v : xs ≡ ys = same_eq xs ys q in
    cc

pub same_refl : (a : List ℕ) → same a a ≡ true
unfolding same
same_refl [] = refl
same_refl (x ∷ xs) = rw (eq-eqb x x refl, same_refl xs)

-- ---- the key and the outer length

-- what stands before d, the set's bytes
abbrev pub Opened : Form → List ℕ → ℕ → List ℕ → Type 0
Opened embedded s w d = (w ≡ 0) × (s ≡ d)
Opened standalone s w d = (s ≡ the_key ++ under w d) × Holds w (length d)

pub opening_says : (f : Form) (s : List ℕ) (w : ℕ) → Bytes s → opening f s ≡ ok w → Opened f s w (drop (start f w) s)
unfolding opening
opening_says embedded s w b e = (sym (ok_inj _ _ e), refl)
opening_says standalone s w b e =
    need_then _ _ _ _ e λ k e₁.
    bind_then _ _ _ e₁ λ n en e₂.
    need_then _ _ _ _ e₂ λ z e₃.
    let (t, h) = len_says (drop 16 s) n (bytes_drop 16 s b) en in
    let z' : 16 + n.used + n.val ≡ length s = eqb-true _ _ z in
    let l : length (drop (16 + n.used) s) ≡ n.val = simp length-drop (omega arith) in
    let d : drop n.used (drop 16 s) ≡ drop (16 + n.used) s = drop-drop n.used 16 s in
    let q : drop 16 s ≡ len_bytes n.used n.val ++ drop (16 + n.used) s = t.bytes ∙ ap (λ x. len_bytes n.used n.val ++ x) d in
    rw (← ok_inj _ _ e₃)
    (rw l (sym (take-append-drop 16 s) ∙ ap (λ x. x ++ drop 16 s) (same_eq _ _ k) ∙ ap (λ x. the_key ++ x) q), rw l h)

opening_alone : (w : ℕ) (d : List ℕ) → Holds w (length d) → opening standalone (the_key ++ under w d) ≡ ok w
unfolding opening ◌>>=◌ need
opening_alone w d h =
    let n : ℕ = length d in
    let t₁ : take 16 (the_key ++ under w d) ≡ the_key = take_at the_key (under w d) 16 key_size in
    let d₁ : drop 16 (the_key ++ under w d) ≡ under w d = drop_at the_key (under w d) 16 key_size in
    let size : length (the_key ++ under w d) ≡ 16 + w + n = simp (length-append, length_len, key_size) (omega arith) in
    rw (t₁, same_refl the_key, d₁, len_back w n d h, size, eq-eqb (16 + w + n) (16 + w + n) refl)

alone_drop : (w : ℕ) (d : List ℕ) → drop (16 + w) (the_key ++ under w d) ≡ d
alone_drop w d =
    sym (drop-drop w 16 (the_key ++ under w d))
    ∙ ap (drop w) (drop_at the_key (under w d) 16 key_size)
    ∙ drop_at (len_bytes w (length d)) d w (length_len w (length d))

-- ---- the set

pub set_says : (f : Form) (d : List ℕ) (es : Got (List Entry)) → Bytes d → run always tag_of_entry (entry f) d ≡ ok es → (d ≡ flat_all flat_entry es.val) × SetRead f [] es.val
set_says f d es b e =
    let ran = all_says tag_of_entry (entry f) flat_entry (entry_faithful f) d es b e in
    let b' : Bytes (flat_all flat_entry es.val ++ []) = rw (append-nil (flat_all flat_entry es.val)) (rw ran.bytes at b) in
    (ran.bytes, along_map tag_of_entry flat_entry _ (λ seen e t. EntryRead f seen e (none? t)) (entry_stood f) [] es.val [] b' ran.along)

pub set_once : (f : Form) (es : List Entry) → SetRead f [] es → Once (map tag_of_entry es)
set_once f es h =
    (fresh_says [] (map tag_of_entry es)
    (along_fresh tag_of_entry flat_entry (λ seen e t. EntryRead f seen e (none? t)) (λ seen e t g. (entry_stands f seen e (none? t) g).new) [] es [] h)).0

-- ---- the checksum

-- a body under its length, and the checksum
pub covered_is : (w : ℕ) (b c : List ℕ) → length c ≡ 2 → the_key ++ under w (b ++ (1 ∷ 2 ∷ c)) ≡ covered w b ++ c
unfolding covered
covered_is w b c e =
    let l : length (b ++ (1 ∷ 2 ∷ c)) ≡ length b + 4 = simp length-append (omega arith) in
    rw l (simp append_assoc)

sum_below : (s : List ℕ) → checksum s < 256 ^ 2
unfolding checksum
sum_below s = omega arith

-- ---- accepted, so valid

embedded_lies : (s : List ℕ) (es : List Entry) → length s ≤ 8192 → s ≡ flat_all flat_entry es → SetRead embedded [] es
    → Lies embedded s (record { form = embedded; width = 0; entries = unsealed es; sum = [] })
unfolding flat framed
embedded_lies s es l z h =
    let k = split embedded [] es h in
    let u : es ≡ unsealed es = split_embedded es k in
    let q : flat_all flat_entry (unsealed es) ≡ s = ap (flat_all flat_entry) (sym u) ∙ sym z in
    record {
      form_is = refl;
      lies_flat = q;
      valid = record {
        small = rw q l;
        entries_valid = record { once = rw u at (set_once embedded es h); each = k.valid };
        begins = tt;
        framed = (refl, refl);
      };
    }

alone_lies : (s : List ℕ) (w : ℕ) (es : List Entry) (c : List ℕ) → Bytes s → length s ≤ 8192 → s ≡ the_key ++ under w (flat_all flat_entry es) → Holds w (length (flat_all flat_entry es))
    → SetRead standalone [] es → has 1 (map tag_of_entry es) ≡ true → length c ≡ 2 → es ≡ unsealed es ++ (plain (seal_item c) ∷ [])
    → checksum (take (length s - 2) s) ≡ bytes_number (drop (length s - 2) s)
    → Lies standalone s (record { form = standalone; width = w; entries = unsealed es; sum = drop (length s - 2) s })
unfolding flat framed
alone_lies s w es c b l z hw h o lc u ck =
    let body : List ℕ = flat_all flat_entry (unsealed es) in
    let q : flat_all flat_entry es ≡ body ++ (1 ∷ 2 ∷ c)
    = ap (flat_all flat_entry) u ∙ flat_snoc flat_entry (unsealed es) (plain (seal_item c)) ∙ ap (λ x. body ++ x) (seal_flat c lc) in
    let n : length (flat_all flat_entry es) ≡ length body + 4 = ap length q ∙ simp length-append (omega arith) in
    let s₁ : s ≡ covered w body ++ c = z ∙ ap (λ x. the_key ++ under w x) q ∙ covered_is w body c lc in
    let m : length (covered w body) ≡ length s - 2 = rw s₁ (simp length-append (omega arith)) in
    let d : drop (length s - 2) s ≡ c = subst (λ x. drop (length s - 2) x ≡ c) (sym s₁) (drop_at (covered w body) c (length s - 2) m) in
    let t : take (length s - 2) s ≡ covered w body = subst (λ x. take (length s - 2) x ≡ covered w body) (sym s₁) (take_at (covered w body) c (length s - 2) m) in
    let ck' : checksum (covered w body) ≡ bytes_number c = rw (t, d) at ck in
    let bc : Bytes c = bytes_right (covered w body) c (rw s₁ at b) in
    rw d (record {
      form_is = refl;
      lies_flat = sym s₁;
      valid = record {
        small = rw s₁ at l;
        entries_valid = record {
          once = once_left (map tag_of_entry (unsealed es)) _ (rw (map-append tag_of_entry (unsealed es) (plain (seal_item c) ∷ [])) at (rw u at (set_once standalone es h)));
          each = (split standalone [] es h).valid;
        };
        begins = begun_alone es h o;
        framed = (rw n at hw, rw ck' (sym (fixed_back 2 c bc lc)));
      };
    })

closed_lies : (f : Form) (s : List ℕ) (w : ℕ) (es : List Entry) (sum : List ℕ) → Bytes s → length s ≤ 8192 → Opened f s w (flat_all flat_entry es) → SetRead f [] es → closing f s es ≡ ok sum
    → Lies f s (record { form = f; width = w; entries = unsealed es; sum = sum })
unfolding closing
closed_lies embedded s w es sum b l o h e = rw (o.0, ← ok_inj _ _ e) (embedded_lies s es l o.1 h)
closed_lies standalone s w es sum b l o h e =
    after_need_then _ _ _ _ _ e λ has1 e₁.
    after_need_then _ _ _ _ _ e₁ λ ck e₂.
    split_alone es (split standalone [] es h) has1 λ c lc u.
    rw (← ok_inj _ _ e₂) (alone_lies s w es c b l o.0 o.1 h has1 lc u (eqb-true _ _ ck))

pub parse_says : (f : Form) (s : List ℕ) (p : Packet) → Bytes s → parse f s ≡ ok p → Lies f s p
unfolding parse limit
parse_says f s p b e =
    need_then _ _ _ _ e λ l e₁.
    bind_then _ _ _ e₁ λ w ew e₂.
    after_then _ _ _ _ e₂ λ es ees e₃.
    bind_then _ _ _ e₃ λ sum esum e₄.
    let o : Opened f s w (drop (start f w) s) = opening_says f s w b ew in
    let (d, h) = set_says f (drop (start f w) s) es (bytes_drop (start f w) s b) ees in
    rw (← ok_inj _ _ e₄) (closed_lies f s w es.val sum b (leb-true (length s) 8192 l) (subst (Opened f s w) d o) h esum)

-- ---- valid, so accepted

begin_first : (f : Form) (es : List Entry) → Begins f (map tag_of_entry es) → First tag_of_entry flat_entry (λ seen k. may_begin set f k seen ≡ true) [] es
begin_first embedded [] h = tt
begin_first embedded (e ∷ es) h = begin_embedded (tag_of_entry e) []
begin_first standalone [] h = tt
begin_first standalone (e ∷ es) h = rw h (begin_two [])

-- the entries of a valid packet are read back, whatever follows them
entries_read : (f : Form) (es : List Entry) (t : List ℕ) → Together tag_of_entry (EntryValid f) es → Begins f (map tag_of_entry es)
    → Along tag_of_entry flat_entry (ReadsAt always tag_of_entry (entry f) flat_entry) [] es t
entries_read f es t h b =
    together_along always tag_of_entry (entry f) flat_entry (EntryValid f) (λ seen k. may_begin set f k seen ≡ true) (λ t. Unit {0}) (begin_later set f) (λ e t. tt)
    (λ seen e t n m _ g. entry_reads f seen e t (valid_entry f seen e (none? t) n m g)) es t (begin_first f es b) tt h

no_seals : (f : Form) (es : List Entry) → All (EntryValid f) es → All (λ e. eqb (tag_of_entry e) 1 ≡ false) es
no_seals f es h = all_map (EntryValid f) (λ e. eqb (tag_of_entry e) 1 ≡ false) (entry_not_seal f) es h

begins_some : (es : List Entry) → Begins standalone (map tag_of_entry es) → none? (past tag_of_entry [] es) ≡ false
begins_some [] h = absurd h
begins_some (e ∷ es) h = past_some tag_of_entry (tag_of_entry e ∷ []) es refl

seal_along : (es : List Entry) (c : List ℕ) → length c ≡ 2 → Together tag_of_entry (EntryValid standalone) es → Begins standalone (map tag_of_entry es)
    → Along tag_of_entry flat_entry (ReadsAt always tag_of_entry (entry standalone) flat_entry) [] (es ++ (plain (seal_item c) ∷ [])) []
seal_along es c l h b =
    along_snoc tag_of_entry flat_entry (ReadsAt always tag_of_entry (entry standalone) flat_entry) [] es (plain (seal_item c)) []
    (entries_read standalone es (flat_entry (plain (seal_item c)) ++ []) h b)
    (entry_reads standalone (past tag_of_entry [] es) (plain (seal_item c)) []
    (seal_read (past tag_of_entry [] es) c l (past_has tag_of_entry 1 [] es (unfold has in refl) (no_seals standalone es h.each)) (begins_some es b)))

embedded_back : (es : List Entry) → Together tag_of_entry (EntryValid embedded) es → length (flat_all flat_entry es) ≤ 8192
    → parse embedded (flat_all flat_entry es) ≡ ok (record { form = embedded; width = 0; entries = es; sum = [] })
unfolding parse opening closing limit ◌>>=◌ need after
embedded_back es h l =
    let a = entries_read embedded es [] h tt in
    let u : unsealed es ≡ es = rw append-nil at (unseal_all es [] (no_seals embedded es h.each)) ∙ rw unseal_none (append-nil es) in
    rw (le-leb (length (flat_all flat_entry es)) 8192 l, all_back tag_of_entry (entry embedded) flat_entry es a, u)

closing_alone : (w : ℕ) (es es' : List Entry) (c : List ℕ) → has 1 (map tag_of_entry es) ≡ true → c ≡ fixed 2 (checksum (covered w (flat_all flat_entry es')))
    → closing standalone (covered w (flat_all flat_entry es') ++ c) es ≡ ok c
unfolding closing ◌>>=◌ need after
closing_alone w es es' c o e =
    let v : List ℕ = covered w (flat_all flat_entry es') in
    let l : length c ≡ 2 = rw e (length_fixed 2 (checksum v)) in
    let m : length v ≡ length (v ++ c) - 2 = simp length-append (omega arith) in
    let t : take (length (v ++ c) - 2) (v ++ c) ≡ v = take_at v c (length (v ++ c) - 2) m in
    let d : drop (length (v ++ c) - 2) (v ++ c) ≡ c = drop_at v c (length (v ++ c) - 2) m in
    let n : bytes_number c ≡ checksum v = rw e (fixed_number 2 (checksum v) (sum_below v)) in
    rw (o, t, d, n, eq-eqb (checksum v) (checksum v) refl)

alone_back : (w : ℕ) (es : List Entry) (c : List ℕ) → Together tag_of_entry (EntryValid standalone) es → Begins standalone (map tag_of_entry es)
    → Holds w (length (flat_all flat_entry es) + 4) → c ≡ fixed 2 (checksum (covered w (flat_all flat_entry es))) → length (covered w (flat_all flat_entry es) ++ c) ≤ 8192
    → parse standalone (covered w (flat_all flat_entry es) ++ c) ≡ ok (record { form = standalone; width = w; entries = es; sum = c })
unfolding parse limit ◌>>=◌ need after
alone_back w es c h b hw e l =
    let body : List ℕ = flat_all flat_entry es in
    let s : List ℕ = covered w body ++ c in
    let all : List Entry = es ++ (plain (seal_item c) ∷ []) in
    let lc : length c ≡ 2 = rw e (length_fixed 2 (checksum (covered w body))) in
    let q : flat_all flat_entry all ≡ body ++ (1 ∷ 2 ∷ c) = flat_snoc flat_entry es (plain (seal_item c)) ∙ ap (λ x. body ++ x) (seal_flat c lc) in
    let n : length (flat_all flat_entry all) ≡ length body + 4 = ap length q ∙ simp length-append (omega arith) in
    let z : s ≡ the_key ++ under w (flat_all flat_entry all) = sym (covered_is w body c lc) ∙ ap (λ x. the_key ++ under w x) (sym q) in
    let o : opening standalone s ≡ ok w = rw z (opening_alone w (flat_all flat_entry all) (rw n hw)) in
    let d : drop (16 + w) s ≡ flat_all flat_entry all = rw z (alone_drop w (flat_all flat_entry all)) in
    let k : closing standalone s all ≡ ok c = closing_alone w all es c (has_seal es c) e in
    let u : unsealed all ≡ es = unseal_all es _ (no_seals standalone es h.each) ∙ rw (unseal_seal c) (append-nil es) in
    rw (le-leb (length s) 8192 l, o, d, all_back tag_of_entry (entry standalone) flat_entry all (seal_along es c lc h b), k, u)

pub parse_back : (f : Form) (w : ℕ) (es : List Entry) (c : List ℕ) → Valid (record { form = f; width = w; entries = es; sum = c })
    → parse f (framed f w (flat_all flat_entry es) c) ≡ ok (record { form = f; width = w; entries = es; sum = c })
unfolding framed flat
parse_back embedded w es c h = rw (h.framed.0, h.framed.1) (embedded_back es h.entries_valid h.small)
parse_back standalone w es c h = alone_back w es c h.entries_valid h.begins h.framed.0 h.framed.1 h.small

pub valid_parses : (p : Packet) → Valid p → parse p.form (flat p) ≡ ok p
unfolding flat
valid_parses p h = parse_back p.form p.width p.entries p.sum h

pub lies_parses : (f : Form) (s : List ℕ) (p : Packet) → Lies f s p → parse f s ≡ ok p
lies_parses f s p h = ap (λ g. parse g s) (sym h.form_is) ∙ ap (parse p.form) (sym h.lies_flat) ∙ valid_parses p h.valid
