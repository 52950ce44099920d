-- The first store of a good setup.
use Rattle.std.specs.Prelude.{ℕ, ◌≡◌, refl, List}
use Rattle.std.proofs.lemmas.Bool.{false≢true}
use Rattle.std.proofs.Common.{sym, ◌∙◌, arith}
use Rattle.book.specs.Sets.{member_none}
use Rattle.book.specs.Setup.{first_store, setup_refusal}
use Rattle.facts.specs.Setup.{good_setup_lem}
use Rattle.bounds.proofs.WellFormedKept.{setup_good}
use Rattle.invariant.specs.Inv.{Gossip, Inv}

-- nothing is under way in a first store
pub first_inv : (masks homes : List ℕ) → setup_refusal masks homes ≡ 0 → Inv (first_store masks homes)
first_inv masks homes z =
    let U = good_setup_lem (first_store masks homes) (setup_good masks homes z) in
    record {
      setup = U;
      clocks = record {
        own = λ h p. omega arith;
        proposed = λ t p e. absurd (omega arith);
        above = λ t p e. absurd (omega arith);
        waits = λ t p e. absurd (omega arith);
        committed = λ t p l. absurd (omega arith);
      };
      states = record {
        places = omega arith;
        free = λ t p l. refl;
        undecided = λ t l. refl;
        range = λ t p. omega arith;
        early = λ t p b e. absurd (omega arith);
        decided = λ t p b e d. absurd (omega arith);
        late = λ t p l. absurd (omega arith);
      };
      channels = record {
        seen = λ g p f. omega arith;
        low = λ g p f i n l. absurd (omega arith);
        high = λ g p f i n l. absurd (omega arith);
        order = λ g p f i j n l m. absurd (omega arith);
        fresh = λ g p f i t n l e. absurd (omega arith);
        later = λ g p f i j t n l m e. absurd (omega arith);
        heard = λ g p f n k w. omega arith;
        newest = λ g p f i n k w. omega arith;
      };
      holding = record {
        home = λ t p e. absurd (omega arith);
        away = λ t p g e k n. absurd (omega arith);
        done = λ h p t e. absurd (omega arith);
      };
      writes = record {
        from = λ t. U.hall;
        written = λ t k b e. absurd (false≢true (sym (member_none k) ∙ e));
      };
    }

-- nor was anything told
pub first_gossip : (masks homes : List ℕ) → setup_refusal masks homes ≡ 0 → Gossip (first_store masks homes)
first_gossip masks homes z = record {
  note = λ h p g e. omega arith;
  shared = λ to f p g e e'. omega arith;
  stable = λ a b h p g e e'. omega arith;
  snapshot = λ s h p g e e'. omega arith;
}
