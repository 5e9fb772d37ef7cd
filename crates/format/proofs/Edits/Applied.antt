-- Changes to one level, of a packet or of a sheet: what they leave of its keys, under a map, and of what holds of each.
use mathlib.Core.Path.{◌≡◌, refl, sym, ap, ◌∙◌, subst}
use Prim.Native.Nat.{ℕ, ◌+◌, ◌≤◌}
use native.Mathlib.Omega.{arith}
use mathlib.Core.List.{List, [], ◌∷◌, map}
use lib.ListN.{length, length-append}
use lib.Dec.{eqb}
use Rattle.format.specs.Lists.{flat_all, put_in}
use Rattle.format.specs.Edit.{Change, put, remove, Changes, changed, applied}
use Rattle.format.specs.Valid.{All, Once, Together}
use Rattle.format.proofs.Words.Changes.{map_put, map_out, all_put, all_out, changed_keys, once_changed}

-- ---- under a map

module _ {X Y : Type 0} (g : X → Y) (key : X → ℕ) (key' : Y → ℕ) (make : ℕ → List ℕ → X) (make' : ℕ → List ℕ → Y) (same : (x : X) → key' (g x) ≡ key x)
    (e : (tag : ℕ) (v : List ℕ) → g (make tag v) ≡ make' tag v) where
  pub map_changed : (tag : ℕ) (c : Change) (xs : List X) → map g (changed key make tag c xs) ≡ changed key' make' tag c (map g xs)
  unfolding changed
  map_changed tag (put v) xs =
      map_put g (λ x. eqb (key x) tag) (λ y. eqb (key' y) tag) (λ x. ap (λ k. eqb k tag) (same x)) (make tag v) xs
      ∙ ap (λ y. put_in (λ y. eqb (key' y) tag) y (map g xs)) (e tag v)
  map_changed tag remove xs = map_out g (λ x. eqb (key x) tag) (λ y. eqb (key' y) tag) (λ x. ap (λ k. eqb k tag) (same x)) xs

  pub map_applied : (cs : Changes) (xs : List X) → map g (applied key make cs xs) ≡ applied key' make' cs (map g xs)
  unfolding applied
  map_applied [] xs = refl
  map_applied ((tag, c) ∷ cs) xs = map_applied cs (changed key make tag c xs) ∙ ap (applied key' make' cs) (map_changed tag c xs)

-- ---- the keys

abbrev pub keys_after : Changes → List ℕ → List ℕ
keys_after cs ks = applied (λ k. k) (λ t v. t) cs ks

pub once_after : (cs : Changes) (ks : List ℕ) → Once ks → Once (keys_after cs ks)
unfolding applied
once_after [] ks h = h
once_after ((tag, c) ∷ cs) ks h = once_after cs (changed_keys tag c ks) (once_changed tag c ks h)

pub applied_keys : {X : Type 0} (key : X → ℕ) (make : ℕ → List ℕ → X) → ((tag : ℕ) (v : List ℕ) → key (make tag v) ≡ tag) → (cs : Changes) (xs : List X)
    → map key (applied key make cs xs) ≡ keys_after cs (map key xs)
applied_keys key make same cs xs = map_applied key key (λ k. k) make (λ t v. t) (λ x. refl) same cs xs

-- ---- what holds of each, in a result of at most n bytes

module _ {X : Type 0} (flat : X → List ℕ) (Q : X → Type 0) (n : ℕ) where
  -- right, if it is that small
  abbrev pub Right : X → Type 0
  Right x = length (flat x) ≤ n → Q x

  pub right_all : (xs : List X) → All Q xs → All Right xs
  right_all [] h = tt
  right_all (x ∷ xs) h = ((λ _. h.0), right_all xs h.1)

  pub all_right : (xs : List X) → length (flat_all flat xs) ≤ n → All Right xs → All Q xs
  unfolding flat_all
  all_right [] b h = tt
  all_right (x ∷ xs) b h =
      let b₁ : length (flat x) + length (flat_all flat xs) ≤ n = rw length-append at b in
      (h.0 (omega arith), all_right xs (omega arith) h.1)

  module _ (key : X → ℕ) (make : ℕ → List ℕ → X) (same : (tag : ℕ) (v : List ℕ) → key (make tag v) ≡ tag) where
    -- a put thing is right if it is that small
    abbrev pub Made : ℕ × Change → Type 0
    Made (tag, put v) = Right (make tag v)
    Made (tag, remove) = Unit {0}

    changed_right : (tag : ℕ) (c : Change) (xs : List X) → Made (tag, c) → All Right xs → All Right (changed key make tag c xs)
    unfolding changed
    changed_right tag (put v) xs m h = all_put Right (λ x. eqb (key x) tag) (make tag v) m xs h
    changed_right tag remove xs m h = all_out Right (λ x. eqb (key x) tag) xs h

    applied_right : (cs : Changes) (xs : List X) → All Made cs → All Right xs → All Right (applied key make cs xs)
    unfolding applied
    applied_right [] xs m h = h
    applied_right ((tag, c) ∷ cs) xs m h = applied_right cs (changed key make tag c xs) m.1 (changed_right tag c xs m.0 h)

    pub applied_together : (cs : Changes) (xs : List X) → All Made cs → length (flat_all flat (applied key make cs xs)) ≤ n → Together key Q xs → Together key Q (applied key make cs xs)
    applied_together cs xs m b h = record {
      once = subst Once (sym (applied_keys key make same cs xs)) (once_after cs (map key xs) h.once);
      each = all_right (applied key make cs xs) b (applied_right cs xs m (right_all xs h.each));
    }
