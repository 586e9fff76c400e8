-- How large a number digits can say.
use Rattle.std.proofs.Common.{ℕ, ◌+◌, ◌*◌, ◌^◌, ◌<◌, ◌≤◌, arith}
use Rattle.std.proofs.Math.Nat.{pow-le-pow_right}
use Rattle.std.proofs.lemmas.Grind.{pow_more}

pub digit_fits : (v i d : ℕ) → v < 10 ^ i → d ≤ 9 → 10 * v + d < 10 ^ (i + 1)
digit_fits v i d h k = omega (arith, pow_more 10 i)

pub few_digits : (v i : ℕ) → i ≤ 9 → v < 10 ^ i → v < 1000000000
few_digits v i h k =
    let ten : 0 < 10 = omega arith in
    let most : 10 ^ i ≤ 10 ^ 9 = pow-le-pow_right ten h in omega arith
