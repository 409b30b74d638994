-- A look comes to each ring.
use Rattle.std.proofs.Common.{◌≡◌, ℕ, ◌+◌, ◌-◌, ◌%◌, ◌<◌, inl, inr, arith, ap, ◌∙◌}
use Rattle.std.proofs.lemmas.Bool.{cases_lt}
use Rattle.std.proofs.Math.Nat.{mod-eq_of_lt, add-mod_right}
use Rattle.sab_race.specs.Mixing.{ComesToEach}

pub comes_to_each : (first rings : ℕ) → first < rings → ComesToEach first rings
comes_to_each first rings inside ring below =
    elim (cases_lt ring first) [
      | inl before ↦
          let sum : first + (ring + rings - first) ≡ ring + rings = omega (arith, inside) in (
            ring + rings - first,
            omega (arith, before, below),
            ap (λ n. n % rings) sum ∙ (add-mod_right ring rings ∙ mod-eq_of_lt below),
          )
      | inr from ↦
          let sum : first + (ring - first) ≡ ring = omega (arith, from) in
          (ring - first, omega (arith, below), ap (λ n. n % rings) sum ∙ mod-eq_of_lt below)
    ]
