-- "one server's reading, hybrid clock and version clock move together as one record": taken from a store and put back whole.
use Rattle.std.specs.Prelude.{ℕ, ◌≡◌}
use Rattle.std.proofs.Common.{◌∙◌}
use Rattle.book.specs.declared.Clock.{Clock}
use Rattle.book.specs.Cells.{Store, ◌⟨◌≔◌⟩, Reading, Hybrid, Entry}
use Rattle.book.specs.Updates.{keep}
use Rattle.book.specs.CommitSteps.{proposed_time}

abbrev pub clock : ℕ → ℕ → ℕ → Clock
clock x y z = record { reading = record { 0 = x }; hybrid = record { 0 = y }; version = record { 0 = z } }

-- the clock of server (h, p): "its own entry is its version clock"
abbrev pub clock_of : Store → ℕ → ℕ → Clock
clock_of σ h p = clock (σ (Reading h p)) (σ (Hybrid h p)) (σ (Entry h p h))

-- the store with that clock at server (h, p)
abbrev pub with_clock : Store → ℕ → ℕ → Clock → Store
with_clock σ h p c =
    σ ⟨ Reading h p ≔ c.reading.0 ⟩ ⟨ Hybrid h p ≔ c.hybrid.0 ⟩ ⟨ Entry h p h ≔ c.version.0 ⟩

abbrev pub proposed_clock : Clock → ℕ → ℕ → Clock
proposed_clock c last S =
    clock c.reading.0 (proposed_time c.reading.0 c.hybrid.0 last S) c.version.0

module _ (σ : Store) (h p : ℕ) (c : Clock) where
  -- a clock that is put back with the hybrid clock and the version clock that it had
  pub reading_alone : c.hybrid.0 ≡ σ (Hybrid h p) → c.version.0 ≡ σ (Entry h p h)
      → with_clock σ h p c ≡ σ ⟨ Reading h p ≔ c.reading.0 ⟩
  reading_alone e f =
      let τ : Store = σ ⟨ Reading h p ≔ c.reading.0 ⟩ in
      rw (e, f) (keep (τ ⟨ Hybrid h p ≔ τ (Hybrid h p) ⟩) (Entry h p h) ∙ keep τ (Hybrid h p))

  -- and with the reading and the version clock that it had
  pub hybrid_alone : c.reading.0 ≡ σ (Reading h p) → c.version.0 ≡ σ (Entry h p h)
      → with_clock σ h p c ≡ σ ⟨ Hybrid h p ≔ c.hybrid.0 ⟩
  hybrid_alone e f =
      rw (e, f)
      (keep (σ ⟨ Reading h p ≔ σ (Reading h p) ⟩ ⟨ Hybrid h p ≔ c.hybrid.0 ⟩) (Entry h p h) ∙ rw (keep σ (Reading h p)))
