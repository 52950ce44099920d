-- "Each server writes only its own stretch .. for clocks, vector and versions held": a step is at one server at most, and changes no
-- other's.
use Rattle.std.specs.Prelude.{ℕ, Bool, false, cond, ◌&&◌, ◌||◌, ◌≡◌, eqb}
use Rattle.book.specs.Cells.{Store, Reading, Hybrid, Stable, Entry, Held, HomeHall, HomePartition}
use Rattle.book.specs.Servers.{writer, place_of}

abbrev pub is_server : ℕ → ℕ → ℕ → ℕ → Bool
is_server x y h p = eqb x h && eqb y p

-- Server (h, p) is the one that a step is at: the coordinator of a start, the writing server of a prepare and a commit, the receiver of a
-- delivery, the server that a tick, an install or a learn names.
abbrev pub is_at : Store → ℕ → ℕ → ℕ → ℕ → ℕ → ℕ → Bool
is_at σ code a b c h p =
    cond (eqb code 1 || (eqb code 9 || eqb code 13)) (is_server a b h p)
    (cond (eqb code 2) (is_server (σ (HomeHall a)) (σ (HomePartition a)) h p)
    (cond (eqb code 6 || eqb code 8) (is_server (writer σ (place_of a) b) b h p)
    (cond (eqb code 10) (is_server c a h p) false)))

-- the stretch of server (h, p) in τ is what it was in σ
abbrev pub SameStretch : Store → Store → ℕ → ℕ → Type 0
SameStretch σ τ h p = record {
  reading : τ (Reading h p) ≡ σ (Reading h p);
  hybrid : τ (Hybrid h p) ≡ σ (Hybrid h p);
  stable : τ (Stable h p) ≡ σ (Stable h p);
  entries : (g : ℕ) → τ (Entry h p g) ≡ σ (Entry h p g);
  held : (t : ℕ) → τ (Held h p t) ≡ σ (Held h p t);
}
