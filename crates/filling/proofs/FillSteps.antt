-- Laws of filling in, step by step.
use Rattle.std.proofs.Common.{◌≡◌, ℕ, suc, ◌+◌, ◌-◌, ◌<◌, ◌≤◌, List, ◌++◌, ℤ, map, length, take, drop, get_or, set, sym, refl, arith, append_assoc, append-nil}
use Rattle.std.specs.List.{range_with_len}
use Rattle.std.proofs.lemmas.List.{take_more_set, drop_more, take_all, set_past}
use Rattle.tables.specs.Literal.{var}
use Rattle.rules.specs.Fill.{fill_step, fill_gates}
use Rattle.gates.specs.declared.site.Site.{Site}
use Rattle.gates.specs.Sites.{gate_of, gates_of}
use Rattle.gates.proofs.SiteLaws.{output_at}
use Rattle.filling.specs.Filling.{shown}

-- An output beyond the values is left out.
pub step_past : (row : List ℤ) (site : Site) (values : List ℕ) → length values ≤ var site.output - 1 → values ≡ fill_step values (gate_of row site)
unfolding fill_step
step_past row site values h = rw (output_at row site) (sym (set_past values (var site.output - 1) _ h))

-- One gate more is evaluated.
pub evaluate_turns : (row : List ℤ) (sites : List Site) (values : List ℕ) (i : ℕ) (d : Site) → i < length sites
    → fill_gates (gates_of row (drop i sites)) values ≡ fill_gates (gates_of row (drop (i + 1) sites)) (fill_step values (gate_of row (get_or sites i d)))
unfolding fill_gates
evaluate_turns row sites values i d h = rw (drop_more sites i d h) refl

-- A row written from its front: the places before i are written.
pub show_turns : (st ended s : List ℕ) (i n : ℕ) → i < n → n ≡ length s
    → take i s ++ map (shown st ended) (range_with_len (i + 1) (n - i))
    ≡ take (i + 1) (set s i (shown st ended (i + 1))) ++ map (shown st ended) (range_with_len (i + 1 + 1) (n - (i + 1)))
show_turns st ended s i n h k =
    let e : n - i ≡ suc (n - (i + 1)) = omega arith in
    let lt : i < length s = omega arith in
    rw (take_more_set s i (shown st ended (i + 1)) lt, e, append_assoc) refl

pub show_ends : (st ended s : List ℕ) (i n : ℕ) → n ≤ i → n ≡ length s → take i s ++ map (shown st ended) (range_with_len (i + 1) (n - i)) ≡ s
show_ends st ended s i n h k =
    let e : n - i ≡ 0 = omega arith in
    let le : length s ≤ i = omega arith in
    rw (e, take_all i s le, append-nil) refl
