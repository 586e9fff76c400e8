-- One gate is offered: it is not allowed, and nothing changes; or it is, and is put in its place.
use Rattle.std.proofs.Common.{◌≡◌, ◌∙◌, refl, sym, ap, ℕ, ◌<◌, ◌≤◌, Bool, true, false, cond, ◌||◌, List, [], ◌∷◌, ◌++◌, length, take, arith}
use Rattle.std.proofs.lemmas.List.{length-map, length-take}
use Rattle.std.proofs.lemmas.List.Folds.{list_any-append}
use Rattle.std.specs.List.{list_any}
use Rattle.std.proofs.Math.Logic.{∥∥₁_map₂}
use Rattle.rules.specs.Patterns.{Gate}
use Rattle.rules.specs.Taking.{allowed, place, take_first}
use Rattle.circuits.proofs.Taken.{Valid, Taken, place_taken}
use Rattle.gates.specs.Sites.{gate_of}
use Rattle.taking.specs.declared.offer.Taking.{Taking}
use Rattle.taking.specs.Offered.{Offered, row, table, gates, may}
use Rattle.taking.proofs.Room.{room}
use Rattle.taking.proofs.TakeSteps.{first_turn, first_none, first_append}

any_one : (b : Bool) → b ≡ (b || false)
any_one true = refl
any_one false = refl

module _ (g : Gate) where
  pub one_passed : (t : Taking) → may t (gates t) g ≡ false → Offered t t false (g ∷ [])
  unfolding take_first
  one_passed t e = record { row = refl; n = refl; is = sym e ∙ any_one (may t (gates t) g); gates = sym (first_turn (may t) t.n (gates t) g [] ∙ rw (e) refl) }

  pub one_taken : (s t : Taking) → row t ≡ row s → t.n ≡ s.n → may s (gates s) g ≡ true → gates t ≡ place s.n (gates s) g → Offered s t true (g ∷ [])
  one_taken s t r m e p = record { row = r; n = m; is = sym e ∙ any_one (may s (gates s) g); gates = p ∙ sym (first_turn (may s) s.n (gates s) g [] ∙ rw (e) refl) }

-- There is room for it.
pub next_fits : (t : Taking) (g : Gate) → ∥ Valid t.n (table t) g ∥₁ → may t (gates t) g ≡ true → t.count < t.n
next_fits t g v ok =
    let few : t.count ≤ t.n = t.few in
    let there : t.n ≤ length t.sites.now = t.room in
    omega (arith, few, there, room t.n (table t) (gates t) g t.taken v ok, length-map (take t.count t.sites.now) (gate_of (row t)), length-take t.count t.sites.now)

-- The gates taken with one more.
pub still_taken : (n : ℕ) (cs : List (List ℕ)) (gs hs : List Gate) (g : Gate) → ∥ Taken n cs gs ∥₁ → ∥ Valid n cs g ∥₁ → allowed n gs g ≡ true → hs ≡ place n gs g → ∥ Taken n cs hs ∥₁
still_taken n cs gs hs g t v ok e = ∥∥₁_map₂ t v (λ t v. rw e (place_taken n cs gs g t v ok))

-- Offers one behind another.
allowed_same : (m n : ℕ) (fs gs xs : List Gate) → m ≡ n → fs ≡ gs → list_any (allowed m fs) xs ≡ list_any (allowed n gs) xs
allowed_same m n fs gs xs e f = rw (e, f) refl

first_same : (m n : ℕ) (fs gs xs : List Gate) → m ≡ n → fs ≡ gs → take_first (allowed m) m fs xs ≡ take_first (allowed n) n gs xs
first_same m n fs gs xs e f = rw (e, f) refl

pub offered_none : (s : Taking) → Offered s s false []
unfolding take_first
offered_none s = record { row = refl; n = refl; is = refl; gates = refl }

-- Nothing is taken: the gates are those from before.
pub offered_stays : (s t : Taking) (xs : List Gate) → Offered s t false xs → gates t ≡ gates s
offered_stays s t xs o = o.gates ∙ first_none (may s) s.n (gates s) xs (sym o.is)

-- Where none of the first is allowed, the others are offered too.
pub offered_more : (s t u : Taking) (b : Bool) (xs ys : List Gate) → Offered s t false xs → Offered t u b ys → Offered s u b (xs ++ ys)
offered_more s t u b xs ys o p =
    record {
      row = p.row ∙ o.row;
      n = p.n ∙ o.n;
      is = p.is ∙ allowed_same t.n s.n (gates t) (gates s) ys o.n stays ∙ ap (λ a. a || list_any (may s (gates s)) ys) o.is ∙ sym (list_any-append (may s (gates s)) xs ys);
      gates =
          p.gates ∙ first_same t.n s.n (gates t) (gates s) ys o.n stays
          ∙ ap (λ a. cond a (take_first (may s) s.n (gates s) xs) (take_first (may s) s.n (gates s) ys)) o.is ∙ sym (first_append (may s) s.n (gates s) xs ys);
    }
  where
    stays : gates t ≡ gates s
    stays = offered_stays s t xs o

-- Where one is allowed, those behind it do not count.
pub offered_done : (s t : Taking) (xs ys : List Gate) → Offered s t true xs → Offered s t true (xs ++ ys)
offered_done s t xs ys o =
    record {
      row = o.row;
      n = o.n;
      is = ap (λ a. a || list_any (may s (gates s)) ys) o.is ∙ sym (list_any-append (may s (gates s)) xs ys);
      gates =
          o.gates
          ∙ ap (λ a. cond a (take_first (may s) s.n (gates s) xs) (take_first (may s) s.n (gates s) ys)) o.is ∙ sym (first_append (may s) s.n (gates s) xs ys);
    }
