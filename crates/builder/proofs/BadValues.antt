-- The first number of a range that passes a test is the first of those that pass.
use Rattle.std.proofs.Common.{◌≡◌, ◌∙◌, refl, sym, ap, ℕ, zero, suc, ◌+◌, ◌<◌, ◌≤◌, Bool, true, false, List, [], ◌∷◌, arith, cond, length}
use Rattle.std.proofs.lemmas.Bool.{lt-ltb}
use Rattle.std.specs.Prelude.{Ok, Err}
use Rattle.std.specs.List.{filter, range_with_len}
use Rattle.ways.proofs.Bools.{clash_of}
use Rattle.tables.specs.declared.numbers.Refusal.TheVariants.{BadValue}
use Rattle.tables.specs.Numbers.{refuse}
use Rattle.rules.specs.Calls.{bad_value}

module _ (test : ℕ → Bool) where
  none_from : (s k : ℕ) → ((v : ℕ) → s ≤ v → v < s + k → test v ≡ false) → filter test (range_with_len s k) ≡ []
  none_from s zero h = refl
  none_from s (suc k) h = rw (h s (omega arith) (omega arith)) (none_from (s + 1) k (λ v a b. h v (omega arith) (omega arith)))

  first_from : (s k v : ℕ) → s ≤ v → v < s + k → ((u : ℕ) → s ≤ u → u < v → test u ≡ false) → test v ≡ true
      → bad_value (filter test (range_with_len s k)) ≡ Err (BadValue v)
  unfolding bad_value refuse
  first_from s zero v a b h t = absurd (omega arith)
  first_from s (suc k) v a b h t = go (test s) refl (λ c d. first_from (s + 1) k v c d (λ u f g. h u (omega arith) g) t)
    where
      rest : List ℕ
      rest = filter test (range_with_len (s + 1) k)

      here : test s ≡ true → s ≡ v
      here q = let no : s < v → ⊥ = λ l. clash_of (sym q ∙ h s (omega arith) l) in omega (arith, no)

      later : test s ≡ false → s < v
      later q = let no : s ≡ v → ⊥ = λ e. clash_of (sym t ∙ sym (ap test e) ∙ q) in omega (arith, no)

      go : (e : Bool) → test s ≡ e → (s + 1 ≤ v → v < s + 1 + k → bad_value rest ≡ Err (BadValue v))
          → bad_value (cond (test s) (s ∷ rest) rest) ≡ Err (BadValue v)
      go true q f = rw (q, lt-ltb 0 (suc (length rest)) (omega arith)) (ap (λ u. refuse true (BadValue u)) (here q))
      go false q f = rw q (f (let l = later q in omega arith) (omega arith))

  pub none_bad : (n : ℕ) → ((v : ℕ) → 1 ≤ v → v < n + 1 → test v ≡ false) → Ok tt ≡ bad_value (filter test (range_with_len 1 n))
  unfolding bad_value refuse
  none_bad n h = rw (none_from 1 n (λ v a b. h v a (omega arith))) refl

  pub first_bad : (n v : ℕ) → 1 ≤ v → v < n + 1 → ((u : ℕ) → 1 ≤ u → u < v → test u ≡ false) → test v ≡ true
      → Err (BadValue v) ≡ bad_value (filter test (range_with_len 1 n))
  first_bad n v a b h t = sym (first_from 1 n v a (omega arith) h t)
