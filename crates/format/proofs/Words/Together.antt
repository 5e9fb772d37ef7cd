-- Things that stand together, mapped.
use mathlib.Core.Path.{◌≡◌, refl, sym, ap, subst}
use Prim.Native.Nat.{ℕ, ◌+◌, ◌*◌, ◌≤◌}
use native.Mathlib.Omega.{arith}
use native.Mathlib.Nat.{mul-add}
use mathlib.Core.Bool.{false}
use mathlib.Core.List.{List, [], ◌∷◌, ◌++◌, map}
use lib.ListN.{length, length-append}
use Rattle.format.specs.Lists.{none?, flat_all}
use Rattle.format.specs.Valid.{All, Once, Together}

pub map_keys : {X Y : Type 0} (g : X → Y) (key : X → ℕ) (key' : Y → ℕ) → ((x : X) → key' (g x) ≡ key x) → (xs : List X) → map key' (map g xs) ≡ map key xs
map_keys g key key' e [] = refl
map_keys g key key' e (x ∷ xs) = rw (e x, map_keys g key key' e xs)

pub none_map : {X Y : Type 0} (g : X → Y) (xs : List X) → none? (map g xs) ≡ none? xs
none_map g [] = refl
none_map g (x ∷ xs) = refl

pub all_under : {X Y : Type 0} (g : X → Y) (P : X → Type 0) (Q : Y → Type 0) → ((x : X) → P x → Q (g x)) → (xs : List X) → All P xs → All Q (map g xs)
all_under g P Q k [] h = tt
all_under g P Q k (x ∷ xs) h = (k x h.0, all_under g P Q k xs h.1)

pub together_map : {X Y : Type 0} (g : X → Y) (key : X → ℕ) (key' : Y → ℕ) (P : X → Type 0) (Q : Y → Type 0)
    → ((x : X) → key' (g x) ≡ key x) → ((x : X) → P x → Q (g x)) → (xs : List X) → Together key P xs → Together key' Q (map g xs)
together_map g key key' P Q e k xs h = record { once = subst Once (sym (map_keys g key key' e xs)) h.once; each = all_under g P Q k xs h.each }

-- undone by a map the other way
pub map_back : {X Y : Type 0} (g : X → Y) (g' : Y → X) (P : X → Type 0) → ((x : X) → P x → g' (g x) ≡ x) → (xs : List X) → All P xs → map g' (map g xs) ≡ xs
map_back g g' P e [] h = refl
map_back g g' P e (x ∷ xs) h = rw (e x h.0, map_back g g' P e xs h.1)

-- ---- one of them exchanged

module _ {X : Type 0} (key : X → ℕ) (P : X → Type 0) (x y : X) (after : List X) where
  keys_exchanged : key y ≡ key x → (before : List X) → map key (before ++ (y ∷ after)) ≡ map key (before ++ (x ∷ after))
  keys_exchanged e [] = rw e
  keys_exchanged e (z ∷ before) = ap (λ r. key z ∷ r) (keys_exchanged e before)

  all_exchanged : P y → (before : List X) → All P (before ++ (x ∷ after)) → All P (before ++ (y ∷ after))
  all_exchanged p [] h = (p, h.1)
  all_exchanged p (z ∷ before) h = (h.0, all_exchanged p before h.1)

  pub together_exchanged : key y ≡ key x → P y → (before : List X) → Together key P (before ++ (x ∷ after)) → Together key P (before ++ (y ∷ after))
  together_exchanged e p before h = record { once = subst Once (sym (keys_exchanged e before)) h.once; each = all_exchanged p before h.each }

pub none_mid : {X : Type 0} (before : List X) (x : X) (after : List X) → none? (before ++ (x ∷ after)) ≡ false
none_mid [] x after = refl
none_mid (y ∷ before) x after = refl

-- no more bytes than all together
pub mid_less : {X : Type 0} (flat : X → List ℕ) (before : List X) (x : X) (after : List X) → length (flat x) ≤ length (flat_all flat (before ++ (x ∷ after)))
unfolding flat_all
mid_less flat [] x after = simp length-append (omega arith)
mid_less flat (y ∷ before) x after = let h = mid_less flat before x after in simp length-append (omega arith)

-- and as many less without it
pub mid_out : {X : Type 0} (flat : X → List ℕ) (before : List X) (x : X) (after : List X)
    → length (flat_all flat (before ++ (x ∷ after))) ≡ length (flat_all flat (before ++ after)) + length (flat x)
unfolding flat_all
mid_out flat [] x after = simp length-append (omega arith)
mid_out flat (y ∷ before) x after = let h = mid_out flat before x after in simp length-append (omega arith)

-- at most k times as many bytes
pub flat_less : {X Y : Type 0} (g : X → Y) (flat : X → List ℕ) (flat' : Y → List ℕ) (k : ℕ) (P : X → Type 0)
    → ((x : X) → P x → length (flat' (g x)) ≤ k * length (flat x)) → (xs : List X) → All P xs → length (flat_all flat' (map g xs)) ≤ k * length (flat_all flat xs)
unfolding flat_all
flat_less g flat flat' k P e [] h = omega arith
flat_less g flat flat' k P e (x ∷ xs) h =
    let a = e x h.0 in
    let b = flat_less g flat flat' k P e xs h.1 in
    let m : k * (length (flat x) + length (flat_all flat xs)) ≡ k * length (flat x) + k * length (flat_all flat xs) = mul-add k (length (flat x)) (length (flat_all flat xs)) in
    simp length-append (omega arith)

-- the same of things that are made within n bytes
module _ {X Y : Type 0} (g : X → Y) (P : X → Type 0) (Q : Y → Type 0) (flat : Y → List ℕ) (n : ℕ) (made : (x : X) → P x → length (flat (g x)) ≤ n → Q (g x)) where
  all_made : (xs : List X) → length (flat_all flat (map g xs)) ≤ n → All P xs → All Q (map g xs)
  unfolding flat_all
  all_made [] l h = tt
  all_made (x ∷ xs) l h =
      let e : length (flat (g x)) + length (flat_all flat (map g xs)) ≤ n = rw length-append at l in
      (made x h.0 (omega arith), all_made xs (omega arith) h.1)

  pub together_made : (key : X → ℕ) (key' : Y → ℕ) → ((x : X) → key' (g x) ≡ key x) → (xs : List X) → length (flat_all flat (map g xs)) ≤ n → Together key P xs
      → Together key' Q (map g xs)
  together_made key key' e xs l h = record { once = subst Once (sym (map_keys g key key' e xs)) h.once; each = all_made xs l h.each }
