-- What a variable stands for is a literal of a root, or a value: the invariant of a round's merges.
use Rattle.std.proofs.Common.{◌≡◌, ℕ, ◌*◌, ◌<◌, ◌⊎◌, List, map, length, get_or, sym, refl, ap, ◌∙◌, subst, inl, inr, ⊎_elim, arith, ne_eqb}
use Rattle.std.proofs.lemmas.Bool.{cond_both}
use Rattle.std.proofs.lemmas.List.{length-map}
use Rattle.ways.proofs.Members.{map_cases}
use Rattle.tables.specs.Literal.{var, neg, opp}
use Rattle.tables.proofs.Literals.{var_pos, neg_pos, var-opp, low_var, same_var}
use Rattle.rules.specs.Pairs.{stands, replace, alone, starting, give_way, meet, join, root}
use Rattle.settling.proofs.Links.{starting_is, way_cases, meet_cases}

-- u stands for itself
abbrev pub Root : List ℕ → ℕ → Type 0
Root s u = stands s u ≡ 2 * u

-- every variable stands for a literal of a root
abbrev pub Rooted : List ℕ → Type 0
Rooted s = (v : ℕ) → Root s (var (stands s v))

pub replace_pos : (s : List ℕ) (v : ℕ) → replace s (2 * v) ≡ stands s v
unfolding replace
replace_pos s v = rw (neg_pos v, var_pos v)

pub var-replace : (s : List ℕ) (l : ℕ) → var (replace s l) ≡ var (stands s (var l))
unfolding replace
var-replace s l =
    cond_both (neg l) (opp (stands s (var l))) (stands s (var l)) (λ k. var k ≡ var (stands s (var l))) (λ e. var-opp (stands s (var l))) (λ e. refl)

-- what a change of literals leaves as it is keeps its place
map_fix : (f : ℕ → ℕ) (s : List ℕ) (v d : ℕ) → f (get_or s v d) ≡ get_or s v d → get_or (map f s) v d ≡ get_or s v d
map_fix f s v d e = ⊎_elim (λ q. q ∙ e) (λ q. q.0 ∙ sym q.1) (map_cases f s v d d)

-- one merge: the higher variable gives way
module _ (lo hi : ℕ) where
  pub way_other : (l : ℕ) → (var l ≡ var hi → ⊥) → give_way lo hi l ≡ l
  unfolding give_way
  way_other l h = rw (ne_eqb l hi (λ e. h (ap var e)), ne_eqb l (opp hi) (λ e. h (ap var e ∙ var-opp hi)))

  pub way_var : (l : ℕ) → (var (give_way lo hi l) ≡ var lo) ⊎ ((give_way lo hi l ≡ l) × (var l ≡ var hi → ⊥))
  way_var l =
      way_cases lo hi l (λ k. (var k ≡ var lo) ⊎ ((k ≡ l) × (var l ≡ var hi → ⊥))) (λ e. inl refl) (λ e. inl (var-opp lo))
      (λ f g. inr (refl, λ q. ⊎_elim f g (same_var l hi q)))

  module _ (s : List ℕ) (less : var lo < var hi) (root : Root s (var lo)) where
    stays : (u : ℕ) → (u ≡ var hi → ⊥) → Root s u → Root (map (give_way lo hi) s) u
    unfolding stands
    stays u h r = map_fix (give_way lo hi) s u (2 * u) (rw r (way_other (2 * u) (λ e. h (sym (var_pos u) ∙ e)))) ∙ r

    s' : List ℕ
    s' = map (give_way lo hi) s

    -- where a variable's root is after the merge
    moved : (v : ℕ) → (var (stands s' v) ≡ var lo) ⊎ ((var (stands s' v) ≡ var (stands s v)) × (var (stands s v) ≡ var hi → ⊥)) ⊎ ((var (stands s' v) ≡ v) × Root s' v)
    unfolding s' stands
    moved v = ⊎_elim
        (λ q. ⊎_elim (λ e. inl (ap var q ∙ e)) (λ e. inr (inl (ap var (q ∙ e.0), e.1))) (way_var (get_or s v (2 * v))))
        (λ q. inr (inr (ap var q.0 ∙ var_pos v, q.0))) (map_cases (give_way lo hi) s v (2 * v) (2 * v))

    way_rooted : Rooted s → Rooted s'
    unfolding s'
    way_rooted h v = ⊎_elim
        (λ e. rw e (stays (var lo) (λ q. absurd (omega arith)) root))
        (⊎_elim (λ e. rw e.0 (stays (var (stands s v)) e.1 (h v))) (λ e. rw e.0 e.1)) (moved v)

    way_in : (R : ℕ → Type 0) → R (var lo) → ((v : ℕ) → R v → R (var (stands s v))) → (v : ℕ) → R v → R (var (stands s' v))
    way_in R p h v r = ⊎_elim (λ e. rw e p) (⊎_elim (λ e. rw e.0 (h v r)) (λ e. rw e.0 r)) (moved v)

    way_const : (v : ℕ) → stands s v < 2 → stands s' v ≡ stands s v
    unfolding s' stands
    way_const v h = map_fix (give_way lo hi) s v (2 * v) (way_other (get_or s v (2 * v)) (λ e. absurd (omega arith)))

-- what the merges of a round keep: R is any property of variables
pub record Inv (R : ℕ → Type 0) (s₀ s : List ℕ) : Type 0 where
  pub rooted : Rooted s
  pub inside : (v : ℕ) → R v → R (var (stands s v))
  pub const : (v : ℕ) → stands s₀ v < 2 → stands s v ≡ stands s₀ v
  pub size : length s ≡ length s₀

module _ (R : ℕ → Type 0) (s₀ : List ℕ) where
  way_inv : (lo hi : ℕ) (s : List ℕ) → var lo < var hi → Root s (var lo) → R (var lo) → Inv R s₀ s → Inv R s₀ (map (give_way lo hi) s)
  unfolding s'
  way_inv lo hi s less root r i =
      record {
        rooted = way_rooted lo hi s less root i.rooted;
        inside = way_in lo hi s less root R r i.inside;
        const = λ v h. way_const lo hi s less root v (rw (i.const v h) h) ∙ i.const v h;
        size = length-map s (give_way lo hi) ∙ i.size;
      }

  meet_inv : (p q : ℕ) (s : List ℕ) → Root s (var p) → Root s (var q) → R (var p) → R (var q) → Inv R s₀ s → Inv R s₀ (meet p q s)
  meet_inv p q s f g h k i = meet_cases p q s (Inv R s₀) (λ e. i) (λ l. way_inv p q s l f h i) (λ l. way_inv q p s l g k i)

  pub join_inv : (s c : List ℕ) → R (var (get_or c 0 0)) → R (var (get_or c 1 0)) → Inv R s₀ s → Inv R s₀ (join s c)
  unfolding join
  join_inv s c h k i =
      let x = get_or c 0 0 in let y = get_or c 1 0 in
      let q : var (opp (replace s y)) ≡ var (stands s (var y)) = var-opp (replace s y) ∙ var-replace s y in
      meet_inv (replace s x) (opp (replace s y)) s (rw (var-replace s x) (i.rooted (var x))) (rw q (i.rooted (var y))) (rw (var-replace s x) (i.inside (var x) h)) (rw q (i.inside (var y) k)) i

-- the first of them
module _ (n : ℕ) (m : List ℕ) where
  alone_cases : (v : ℕ) → (alone m v < 2) ⊎ (alone m v ≡ 2 * v)
  unfolding alone
  alone_cases v = grind arith

  pub starting_cases : (v : ℕ) → (stands (starting n m) v < 2) ⊎ Root (starting n m) v
  starting_cases v = ⊎_elim (λ e. ⊎_elim (λ h. inl (rw e h)) (λ h. inr (e ∙ h)) (alone_cases v)) inr (starting_is n m v)

  pub zero_root : Root (starting n m) 0
  unfolding starting stands
  zero_root = refl

  pub starting_inv : (R : ℕ → Type 0) → ((v : ℕ) → R v → stands (starting n m) v < 2 → R 0) → Inv R (starting n m) (starting n m)
  starting_inv R h =
      record {
        rooted = λ v. subst (Root (starting n m)) (sym (where_root v).1) (where_root v).2;
        inside = λ v r. ⊎_elim (λ k. subst R (sym (low_var (stands (starting n m) v) k)) (h v r k)) (λ e. subst R (sym (ap var e ∙ var_pos v)) r) (starting_cases v);
        const = λ v k. refl;
        size = refl;
      }
    where
      where_root : (v : ℕ) → (u : ℕ) × (var (stands (starting n m) v) ≡ u) × Root (starting n m) u
      where_root v = ⊎_elim (λ k. (0, low_var (stands (starting n m) v) k, zero_root)) (λ e. (v, ap var e ∙ var_pos v, e)) (starting_cases v)
