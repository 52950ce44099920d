-- A transaction's writes on their way to its session's cache, key by key.
use Rattle.std.specs.Prelude.{ℕ, ◌+◌, ◌≤◌, ◌<◌, ◌^◌, Bool, true, false, cond, ◌&&◌, ◌≡◌, refl, eqb}
use Rattle.std.proofs.Common.{true≢false, sym, ap, ◌∙◌, arith}
use Rattle.book.specs.Sizes.{keys}
use Rattle.book.specs.Cells.{Cell, same, Store, ◌⟨◌≔◌⟩, each2, CacheValue, CacheTime, KeySet, Value}
use Rattle.book.specs.Updates.{bulk, upd, commute}
use Rattle.book.specs.Sets.{member}
use Rattle.masks.specs.Bits.{member_beyond}
use Rattle.room.specs.Bulk.{Row, up_to, begin, ahead, puts, skips, next, done, row2j}

-- one key of the transaction at place t, if it is in the set m: to the cache of session s, at time x
abbrev pub key_cached : Store → ℕ → ℕ → ℕ → ℕ → ℕ → Store
key_cached σ t s x m k =
    σ ⟨ CacheValue s k ≔ cond (member m k) (σ (Value t k)) (σ (CacheValue s k)) ⟩
    ⟨ CacheTime s k ≔ cond (member m k) x (σ (CacheTime s k)) ⟩

-- all keys that it writes
abbrev pub cached : Store → ℕ → ℕ → ℕ → Store
cached σ t s x =
    each2 CacheValue (λ a k. eqb s a && member (σ (KeySet t)) k) (λ a k. σ (Value t k))
    (each2 CacheTime (λ a k. eqb s a && member (σ (KeySet t)) k) (λ a k. x) σ)

-- a round that puts its cell or leaves it
round : (R : Row) (ok : Cell → Bool) (v : Cell → ℕ) (n : ℕ) (σ : Store)
    → up_to R ok v n σ ⟨ R.cell n ≔ cond (ok (R.cell n)) (v (R.cell n)) (up_to R ok v n σ (R.cell n)) ⟩ ≡ up_to R ok v (n + 1) σ
round R ok v n σ =
    ap (λ (y : ℕ). up_to R ok v n σ ⟨ R.cell n ≔ cond (ok (R.cell n)) (v (R.cell n)) y ⟩) (ahead R ok v n n σ (omega arith))
    ∙ next R ok v n σ

module _ (t s x m : ℕ) where
  abbrev values : Row
  values = row2j (CacheValue s 0).kind s

  abbrev times : Row
  times = row2j (CacheTime s 0).kind s

  abbrev among : Cell → Bool
  among d = member m d.j

  -- the first n keys, as the loop goes
  abbrev times_to : ℕ → Store → Store
  times_to n σ = up_to times among (λ d. x) n σ

  abbrev pub cached_to : ℕ → Store → Store
  cached_to n σ = up_to values among (λ d. σ (Value t d.j)) n (times_to n σ)

  pub cached_none : (σ : Store) → σ ≡ cached_to 0 σ
  cached_none σ = sym (begin values among (λ d. σ (Value t d.j)) (times_to 0 σ) ∙ begin times among (λ d. x) σ)

  pub cached_next : (n : ℕ) (σ : Store) → key_cached (cached_to n σ) t s x m n ≡ cached_to (n + 1) σ
  cached_next n σ =
      let v : Cell → ℕ = λ d. σ (Value t d.j) in
      upd (CacheTime s n) _ (round values among v n (times_to n σ))
      ∙ commute (CacheTime s n).kind (CacheValue s n).kind (same (CacheTime s n)) _ _ v (times_to n σ) refl
      ∙ ap (λ (τ : Store). up_to values among v (n + 1) τ) (round times among (λ d. x) n σ)

  -- a key that moves, and one that does not
  pub cached_puts : (n : ℕ) (σ : Store) → member m n ≡ true
      → cached_to n σ ⟨ CacheValue s n ≔ σ (Value t n) ⟩ ⟨ CacheTime s n ≔ x ⟩ ≡ cached_to (n + 1) σ
  cached_puts n σ e =
      let v : Cell → ℕ = λ d. σ (Value t d.j) in
      upd (CacheTime s n) x (puts values among v n (times_to n σ) e)
      ∙ commute (CacheTime s n).kind (CacheValue s n).kind (same (CacheTime s n)) _ _ v (times_to n σ) refl
      ∙ ap (λ (τ : Store). up_to values among v (n + 1) τ) (puts times among (λ d. x) n σ e)

  pub cached_skips : (n : ℕ) (σ : Store) → member m n ≡ false → cached_to n σ ≡ cached_to (n + 1) σ
  cached_skips n σ e =
      let v : Cell → ℕ = λ d. σ (Value t d.j) in
      skips values among v n (times_to n σ) e
      ∙ ap (λ (τ : Store). up_to values among v (n + 1) τ) (skips times among (λ d. x) n σ e)

  -- a set of the room's keys has none beyond them
  beyond : m < 2 ^ keys → (i y z : ℕ) → keys ≤ i → member m i ≡ true → y ≡ z
  beyond l i y z b e = absurd (true≢false (sym e ∙ member_beyond keys m i l b))

  pub cached_all : (σ : Store) → m ≡ σ (KeySet t) → m < 2 ^ keys → cached_to keys σ ≡ cached σ t s x
  cached_all σ e l =
      rw (← e)
      (done values among (λ d. σ (Value t d.j)) keys (times_to keys σ) (λ i b f. beyond l i _ _ b f)
      ∙ ap (λ (τ : Store). bulk (values.test among) (λ d. σ (Value t d.j)) τ)
      (done times among (λ d. x) keys σ (λ i b f. beyond l i _ _ b f)))
