-- The entries with a target added or dropped, as they are stored: what stands before the series, this, and what follows, one after another.
use mathlib.Core.Path.{◌≡◌, refl, sym, ap, ◌∙◌}
use mathlib.Core.Logic.{◌⊎◌, ⊎_elim}
use Prim.Native.Nat.{ℕ, ◌+◌, ◌-◌, ◌≤◌, ◌<◌}
use native.Mathlib.Omega.{arith}
use mathlib.Core.List.{List, [], ◌++◌, append_assoc, append-nil}
use lib.ListN.{length, take, drop, length-append}
use lib.Seq.{sets, take_all}
use borrow.Rule.Slice.PartMut.{put_mid}
use Rattle.format.specs.Coding.{fixed}
use Rattle.format.specs.Lists.{flat_all}
use Rattle.format.specs.Run.{skip, run}
use Rattle.format.specs.Table.{Form}
use Rattle.find.specs.declared.around.Series.{Series}
use Rattle.find.specs.Series.{InOrder}
use Rattle.stores.proofs.Puts.{Puts, puts_then, puts_fixed, Parted, head_behind, rest_room, rest_put}
use Rattle.store_coded.specs.Fronts.{series_front}
use Rattle.write_packet.specs.Meet.{targets_run, targets_normal}
use Rattle.write_packet.specs.Writing.{TargetsAsked, TargetsLeft}
use Rattle.edit_rules.specs.Cuts.{part, StoredAt}
use Rattle.edit_rules.proofs.Storing.{kept}
use Rattle.target_bytes.specs.Meet.{count_item, counted, series_size, series_put, entries_put, entries_size, PuttingIn}
use Rattle.target_bytes.proofs.Counts.{count_low, count_high, counted_plain, counted_six}
use Rattle.target_bytes.proofs.Sizes.{put_none, put_some, series_put_long, entries_long}

-- ---- tag 6's item

module _ (n : ℕ) (o : List ℕ) (at : ℕ) where
  pub low_stored : n < 256 → {k : ℕ} {o' : List ℕ} → (k ≡ at + 3) × (o' ≡ sets o at (fixed 3 (0x60100 + n))) → StoredAt o at (count_item n) k o'
  low_stored h e = rw (count_low n h) (puts_fixed o at 3 _ e)

  pub high_stored : 256 ≤ n → n ≤ 65535 → {k : ℕ} {o' : List ℕ} → (k ≡ at + 4) × (o' ≡ sets o at (fixed 4 (0x6020000 + n))) → StoredAt o at (count_item n) k o'
  high_stored h l e = rw (count_high n h l) (puts_fixed o at 4 _ e)

-- ---- the bytes from a to b with it

module _ (s : List ℕ) (r : Series) (n a b : ℕ) (o : List ℕ) (at : ℕ) (room : at + length (counted s r n a b) ≤ length o) where
  module _ (h : (r.six < a) ⊎ (b ≤ r.six)) where
    pub plain_asked : at + length (part s a b) ≤ length o
    plain_asked = omega (arith, room, ap length (counted_plain s r n a b h))

    pub plain_stored : {k : ℕ} {o' : List ℕ} → Puts o at (part s a b) k o' → StoredAt o at (counted s r n a b) k o'
    plain_stored e = rw (counted_plain s r n a b h) e

  module _ (h : a ≤ r.six) (l : r.six < b) where
    total : length (part s a r.six) + (length (count_item n) + length (part s r.after b)) ≡ length (counted s r n a b)
    total = sym (ap length (counted_six s r n a b h l) ∙ simp length-append)

    pub first_asked : at + length (part s a r.six) ≤ length o
    first_asked = omega (arith, room, total)

    module _ {i : ℕ} {o₁ : List ℕ} (e₁ : Puts o at (part s a r.six) i o₁) where
      pub count_asked : i + length (count_item n) ≤ length o₁
      count_asked = omega (arith, room, total, e₁.0, kept o at (part s a r.six) e₁.1)

      module _ {j : ℕ} {o₂ : List ℕ} (e₂ : Puts o₁ i (count_item n) j o₂) where
        pub last_asked : j + length (part s r.after b) ≤ length o₂
        last_asked = omega (arith, room, total, e₁.0, e₂.0, kept o at (part s a r.six) e₁.1, kept o₁ i (count_item n) e₂.1)

        pub counted_stored : {k : ℕ} {o₃ : List ℕ} → Puts o₂ j (part s r.after b) k o₃ → StoredAt o at (counted s r n a b) k o₃
        counted_stored e₃ = rw (counted_six s r n a b h l) (puts_then o at (part s a r.six) (count_item n ++ part s r.after b) e₁ (puts_then o₁ i (count_item n) _ e₂ e₃))

-- ---- the series

-- no record makes no pack
pub no_records : (f : Form) {x : List ℕ} → x ≡ [] → targets_normal f x ≡ []
unfolding targets_run run skip flat_all
no_records f e = rw e refl

module _ {f : Form} {s : List ℕ} {r : Series} {n m : ℕ} {records : List ℕ} (q : PuttingIn f s r n m records) where
  abbrev new : List ℕ
  new = targets_normal f records

  -- by the size alone, in whatever form the records are read
  series_sized : length (series_put s r (targets_normal f records)) ≡ series_size m
  series_sized = series_put_long s r q.ordered new ∙ ap series_size (sym q.size)

  entries_sized : length (entries_put s r n (targets_normal f records)) ≡ entries_size r n m
  entries_sized = entries_long s r q.ordered n new ∙ ap (entries_size r n) (sym q.size)

  pub none_stored : m ≡ 0 → (o : List ℕ) (at : ℕ) → StoredAt o at (series_put s r (targets_normal f records)) at o
  none_stored e o at = rw (put_none s r new (sym q.size ∙ e)) (omega arith, refl)

  module _ (some : m ≡ 0 → ⊥) (o : List ℕ) (at : ℕ) (room : at + length (series_put s r (targets_normal f records)) ≤ length o) where
    abbrev front : List ℕ
    front = series_front m

    abbrev before : List ℕ
    before = part s r.packs r.pack

    abbrev later : List ℕ
    later = part s r.last r.tail

    series_is : series_put s r new ≡ front ++ (before ++ (later ++ new))
    series_is = rw q.size (put_some s r new (λ e. some (q.size ∙ e)))

    all : length front + (length before + (length later + length new)) ≡ length (series_put s r new)
    all = sym (ap length series_is ∙ simp length-append)

    pub front_asked : (m ≤ 65536) × (at + length (series_front m) ≤ length o)
    front_asked = (omega (arith, q), omega (arith, room, all))

    module _ {a : ℕ} {o₁ : List ℕ} (e₁ : Puts o at (series_front m) a o₁) where
      pub before_asked : (r.packs ≤ r.pack) × (r.pack ≤ length s) × (a + length (part s r.packs r.pack) ≤ length o₁)
      before_asked = (q.ordered.to_pack, omega (arith, q.ordered), omega (arith, room, all, e₁.0, kept o at front e₁.1))

      module _ {b : ℕ} {o₂ : List ℕ} (e₂ : Puts o₁ a (part s r.packs r.pack) b o₂) where
        pub later_asked : (r.last ≤ r.tail) × (r.tail ≤ length s) × (b + length (part s r.last r.tail) ≤ length o₂)
        later_asked = (q.ordered.to_tail, omega (arith, q.ordered), omega (arith, room, all, e₁.0, e₂.0, kept o at front e₁.1, kept o₁ a before e₂.1))

        module _ {c : ℕ} {o₃ : List ℕ} (e₃ : Puts o₂ b (part s r.last r.tail) c o₃) where
          parted : Parted o at (series_put s r new) (front ++ (before ++ later)) new
          parted = record { is = series_is ∙ sym (append_assoc front (before ++ later) new ∙ ap (λ x. front ++ x) (append_assoc before later new)); fits = room }

          stored : Puts o at (front ++ (before ++ later)) c o₃
          stored = puts_then o at front (before ++ later) e₁ (puts_then o₁ a before later e₂ e₃)

          pub unadded : length records ≡ 0 → StoredAt o at (series_put s r (targets_normal f records)) c o₃
          unadded e = rw (series_is ∙ ap (λ x. front ++ (before ++ x)) (ap (λ x. later ++ x) (no_records f (sym (take_all 0 records (omega (arith, e))))) ∙ append-nil later)) stored

          pub new_behind : c ≤ length o₃
          new_behind = head_behind parted stored

          pub new_asked : TargetsAsked f records (length (take (length o₃ - c) (drop c o₃)))
          new_asked = (q.few_records, q.ran, rest_room parted stored, q.small)

          module _ {u w : ℕ} {o₄ : List ℕ} (e₄ : TargetsLeft records (take (length o₃ - c) (drop c o₃)) u w o₄) where
            pub series_stored : StoredAt o at (series_put s r (targets_normal f records)) (c + w) (put_mid c (length o₃ - c) o₃ o₄)
            series_stored = let p = e₄ f new_asked in rest_put parted stored (p.wrote, p.left)

            pub series_end : c + w ≤ length o
            series_end = omega (arith, series_stored.0, room)

pub series_room : {f g : Form} {s : List ℕ} {r : Series} {n k m : ℕ} {records : List ℕ} → PuttingIn f s r n m records → PuttingIn g s r k m records
    → (at : ℕ) {o : ℕ} → at + length (series_put s r (targets_normal f records)) ≤ o → at + length (series_put s r (targets_normal g records)) ≤ o
series_room q p at l = omega (arith, l, series_sized q, series_sized p)

-- ---- the entries

module _ {f : Form} {s : List ℕ} {r : Series} {n m : ℕ} {records : List ℕ} (q : PuttingIn f s r n m records) where
  pub entries_room : {g : Form} {o : ℕ} → PuttingIn g s r n m records → length (entries_put s r n (targets_normal f records)) ≤ o → length (entries_put s r n (targets_normal g records)) ≤ o
  entries_room p l = omega (arith, l, entries_sized q, entries_sized p)

  pub six_to : r.six < r.at → r.after ≤ r.at
  six_to l = ⊎_elim (λ a. a.1) (λ a. absurd (omega (arith, a, l, q.ordered))) q.ordered.apart

  module _ (o : List ℕ) (room : length (entries_put s r n (targets_normal f records)) ≤ length o) where
    abbrev first : List ℕ
    first = counted s r n 0 r.at

    abbrev mid : List ℕ
    mid = series_put s r (targets_normal f records)

    abbrev last : List ℕ
    last = counted s r n r.tail r.stop

    whole : length first + (length mid + length last) ≤ length o
    unfolding entries_put
    whole = omega (arith, simp length-append at room)

    pub start_asked : InOrder (length s) r × (n ≤ 65535) × (0 ≤ r.at) × (r.at ≤ length s) × (r.six < r.at → r.after ≤ r.at) × (0 + length (counted s r n 0 r.at) ≤ length o)
    start_asked = (q.ordered, q.few, omega arith, omega (arith, q.ordered), six_to, omega (arith, whole))

    module _ {a : ℕ} {o₁ : List ℕ} (e₁ : Puts o 0 (counted s r n 0 r.at) a o₁) where
      pub series_asked : a + length (series_put s r (targets_normal f records)) ≤ length o₁
      series_asked = omega (arith, whole, e₁.0, kept o 0 first e₁.1)

      module _ {b : ℕ} {o₂ : List ℕ} (e₂ : Puts o₁ a (series_put s r (targets_normal f records)) b o₂) where
        pub end_asked : InOrder (length s) r × (n ≤ 65535) × (r.tail ≤ r.stop) × (r.stop ≤ length s) × (r.six < r.stop → r.after ≤ r.stop) × (b + length (counted s r n r.tail r.stop) ≤ length o₂)
        end_asked = (q.ordered, q.few, q.ordered.to_stop, q.ordered.to_end, (λ _. q.ordered.after), omega (arith, whole, e₁.0, e₂.0, kept o 0 first e₁.1, kept o₁ a mid e₂.1))

        pub entries_stored : {k : ℕ} {o₃ : List ℕ} → Puts o₂ b (counted s r n r.tail r.stop) k o₃ → StoredAt o 0 (entries_put s r n (targets_normal f records)) k o₃
        unfolding entries_put
        entries_stored e₃ = puts_then o 0 first (mid ++ last) e₁ (puts_then o₁ a mid last e₂ e₃)
