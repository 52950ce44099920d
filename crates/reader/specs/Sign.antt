-- What stands at a place of a text.
use Rattle.std.specs.Prelude.{ℕ, ◌+◌, ◌<◌, ◌≤◌, List, [], ◌∷◌, Option, None, Some, ◌≡◌, refl, slice_get, length, get_or, drop}
use Rattle.std.specs.Option.{option_map_or}
use Rattle.std.proofs.Common.{arith, drop_of_length-le, drop-cons, add-one}
use Rattle.std.proofs.lemmas.Option.{slice_get_within, get_or_from_slice_get, slice_get_cases}

-- the byte there, or none at the text's end
abbrev pub sign_at : List ℕ → ℕ → Option ℕ
sign_at text at = slice_get text at

module _ (text : List ℕ) (at : ℕ) where
  pub byte_here : (b : ℕ) → sign_at text at ≡ Some b → (at < length text) × (get_or text at 0 ≡ b)
  byte_here b e = (slice_get_within text at b e, get_or_from_slice_get text at b 0 e)

  pub end_here : sign_at text at ≡ None → length text ≤ at
  end_here e = grind (arith, slice_get_cases text at)

  -- what is said of the text from there on, by that byte
  pub from_sign : {A : Type 0} (f : List ℕ → A)
      → f (drop at text) ≡ option_map_or (λ b. f (b ∷ drop (at + 1) text)) (sign_at text at) (f [])
  from_sign f =
      let here = λ (x : Option ℕ). sign_at text at ≡ x → f (drop at text) ≡ option_map_or (λ b. f (b ∷ drop (at + 1) text)) x (f []) in
      elim (sign_at text at) as here [
        | None ↦ λ e. rw (drop_of_length-le text (end_here e))
        | Some b ↦ λ e. let h = byte_here b e in rw (drop-cons text at 0 h.0, h.1, add-one at)
      ] refl
