-- "Each server writes only its own stretch .. for clocks, vector and versions held": a step is at one server at most, and changes no
-- other's.
use Rattle.std.specs.Prelude.{ℕ, Bool, false, ◌&&◌, ◌≡◌, refl, eqb}
use Rattle.std.proofs.Common.{true≢false, sym, ◌∙◌, eq-eqb}
use Rattle.book.specs.Cells.{Cell, Store, same, Reading, Hybrid, Stable, Entry, HomeHall, HomePartition}
use Rattle.book.specs.Cases.{by_test, by_cell, by_eq}
use Rattle.book.specs.Servers.{writer, place_of}
use Rattle.book.specs.SessionSteps.{has_writes}
use Rattle.book.specs.Steps.{Rule, by_code, ◌also◌, refusal, after, tick_rule, start_rule, end_rule, prepare_rule, commit_rule, install_rule, deliver_rule, learn_rule}
use Rattle.progress.specs.Stretches.{is_server, is_at, SameStretch}

-- two cells of two servers are two
apart : (c d : Cell) → is_server c.i c.j d.i d.j ≡ false → same c d ≡ false
apart c d e =
    by_cell c d
    (λ q _. absurd (true≢false (sym (rw (eq-eqb c.i d.i q.i, eq-eqb c.j d.j q.j)) ∙ e)))
    (λ q. q)

-- a test that asks for another server and for more
elsewhere : (x y h p : ℕ) (b : Bool) → is_server x y h p ≡ false → (eqb x h && (eqb y p && b)) ≡ false
elsewhere x y h p b e = by_test (eqb x h) (λ c. rw (c, rw c at e)) (λ c. rw c)

module _ (σ : Store) (h p : ℕ) where
  stays : SameStretch σ σ h p
  stays = record { reading = refl; hybrid = refl; stable = refl; entries = λ g. refl; held = λ t. refl }

  abbrev Elsewhere : ℕ → ℕ → ℕ → ℕ → Rule → Type 0
  Elsewhere a b c n r = is_at σ n a b c h p ≡ false → SameStretch σ r.after h p

  module _ (a b c : ℕ) where
    tick_apart : Elsewhere a b c 1 (tick_rule σ a b c)
    tick_apart e =
        record { reading = rw (apart (Reading a b) (Reading h p) e); hybrid = refl; stable = refl; entries = λ g. refl; held = λ t. refl }

    start_apart : Elsewhere a b c 2 (start_rule σ a b c)
    start_apart e =
        let q = apart (Stable (σ (HomeHall a)) (σ (HomePartition a))) (Stable h p) e in
        record { reading = refl; hybrid = refl; stable = rw q; entries = λ g. refl; held = λ t. refl }

    end_apart : Elsewhere a b c 5 (end_rule σ a b c)
    end_apart e = by_test (has_writes σ a) (λ w. rw w stays) (λ w. rw w stays)

    prepare_apart : Elsewhere a b c 6 (prepare_rule σ a b c)
    prepare_apart e =
        let q = apart (Hybrid (writer σ (place_of a) b) b) (Hybrid h p) e in
        record { reading = refl; hybrid = rw q; stable = refl; entries = λ g. refl; held = λ t. refl }

    commit_apart : Elsewhere a b c 8 (commit_rule σ a b c)
    commit_apart e =
        let q = apart (Hybrid (writer σ (place_of a) b) b) (Hybrid h p) e in
        record { reading = refl; hybrid = rw q; stable = refl; entries = λ g. refl; held = λ t. refl }

    install_apart : Elsewhere a b c 9 (install_rule σ a b c)
    install_apart e = record {
      reading = refl;
      hybrid = rw (apart (Hybrid a b) (Hybrid h p) e);
      stable = refl;
      entries = λ g. rw (apart (Entry a b a) (Entry h p g) e);
      held = λ t. rw (elsewhere a b h p _ e);
    }

    deliver_apart : Elsewhere a b c 10 (deliver_rule σ a b c)
    deliver_apart e = record {
      reading = refl;
      hybrid = refl;
      stable = refl;
      entries = λ g. rw (apart (Entry c a b) (Entry h p g) e);
      held = λ t. rw (elsewhere c a h p _ e);
    }

    learn_apart : Elsewhere a b c 13 (learn_rule σ a b c)
    learn_apart e =
        record { reading = refl; hybrid = refl; stable = rw (apart (Stable a b) (Stable h p) e); entries = λ g. refl; held = λ t. refl }

-- Whatever the four numbers: the stretch of every server that the step is not at stays as it was.
pub own_stretch : (σ : Store) (code a b c h p : ℕ) → is_at σ code a b c h p ≡ false → SameStretch σ (after σ code a b c) h p
unfolding refusal after
own_stretch σ code a b c h p e =
    by_eq (refusal σ code a b c) 0
    (λ q f. rw f
    (by_code (Elsewhere σ h p a b c) σ code a b c
    (tick_apart σ h p a b c
    also start_apart σ h p a b c
    also (λ _. stays σ h p)
    also (λ _. stays σ h p)
    also end_apart σ h p a b c
    also prepare_apart σ h p a b c
    also (λ _. stays σ h p)
    also commit_apart σ h p a b c
    also install_apart σ h p a b c
    also deliver_apart σ h p a b c
    also (λ _. stays σ h p)
    also (λ _. stays σ h p)
    also learn_apart σ h p a b c
    also (λ _. stays σ h p)
    also tt)
    (λ _. stays σ h p) e))
    (λ q f. rw f (stays σ h p))
