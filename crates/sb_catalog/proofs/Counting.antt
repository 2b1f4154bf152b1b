-- How many definitions there are, by counts that stop at a greatest number.
use Rattle.std.proofs.Common.{◌≡◌, ℕ, ◌+◌, ◌≤◌, Bool, true, false, min, length, refl, ap, ◌∙◌, arith}
use Rattle.std.specs.Prelude.{nat_le}
use Rattle.std.proofs.lemmas.Bool.{le-leb, lt-leb, leb-true, leb-false}
use Rattle.sb_model.specs.Catalog.{definitions}
use Rattle.sb_catalog.specs.declared.catalog.Catalog.TheInside.{Inside}
use Rattle.sb_catalog.specs.Inside.{known, IsSound}
use Rattle.sb_catalog.specs.Known.{Known, log_of}
use Rattle.sb_catalog.proofs.Known.{count_known}

module _ (most : ℕ) where
  -- two counts
  pub pair : (a b x y w : ℕ) → x ≡ a → y ≡ b → w ≡ min (x + y) most → w ≡ min (a + b) most
  pair a b x y w p q e = e ∙ ap (λ (z : ℕ). min (z + y) most) p ∙ ap (λ (z : ℕ). min (a + z) most) q

  -- two sums that stopped
  pub both : (a b u v w : ℕ) → u ≡ min a most → v ≡ min b most → w ≡ min (u + v) most → w ≡ min (a + b) most
  both a b u v w p q e = omega arith

  reaches : (m n : ℕ) → 4099 ≤ most → m ≡ min (n + 3) most → nat_le 4099 m ≡ nat_le 4096 n
  reaches m n large e = by (nat_le 4096 n) refl
    where
      by : (t : Bool) → nat_le 4096 n ≡ t → nat_le 4099 m ≡ t
      by true f = le-leb 4099 m (omega (arith, leb-true 4096 n f))
      by false f = lt-leb 4099 m (omega (arith, leb-false 4096 n f))

  -- three definitions are built in
  pub full_by_count : (i : Inside) (k : Known) (m : ℕ) → IsSound i → known i ≡ k → 4099 ≤ most
      → m ≡ min (((length i.message_types.defs + length i.contracts.defs) + (length i.queues.defs + length i.services.defs)) + (length i.routes.defs + length i.priorities.defs) + (length i.tables.defs + length i.procedures.defs)) most
      → nat_le 4099 m ≡ nat_le 4096 (length (definitions (log_of k)))
  full_by_count i k m sound view large e =
      reaches m (length (definitions (log_of (known i)))) large (omega (arith, e, count_known (known i), ap length sound.message_types, ap length sound.contracts, ap length sound.routes))
      ∙ ap (λ (k : Known). nat_le 4096 (length (definitions (log_of k)))) view
