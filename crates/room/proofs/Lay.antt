-- A store written out word for word: what undoes `store`.
use Rattle.std.specs.Prelude.{ℕ, zero, suc, ◌<◌, false, ◌≡◌, refl, List, length, get_or}
use Rattle.std.proofs.Common.{sym, ap, ◌∙◌, arith, ext_get_or}
use Rattle.book.specs.Cells.{Cell, Store}
use Rattle.book.specs.Cases.{by_test}
use Rattle.room.specs.Layout.{size, at, valid, store, cell_at}
use Rattle.room.proofs.Words.{valid_within, within_lt, cell_again, covers}
use Rattle.room.specs.Lay.{lay, list_of}

length_list_of : (n : ℕ) (f : ℕ → ℕ) → length (list_of n f) ≡ n
unfolding list_of
length_list_of zero f = refl
length_list_of (suc n) f = ap suc (length_list_of n (λ w. f (suc w)))

get_d_list_of : (n : ℕ) (f : ℕ → ℕ) (w : ℕ) → w < n → get_or (list_of n f) w 0 ≡ f w
unfolding list_of
get_d_list_of zero f w h = absurd (omega arith)
get_d_list_of (suc n) f zero h = refl
get_d_list_of (suc n) f (suc w) h = get_d_list_of n (λ x. f (suc x)) w (omega arith)

pub length_lay : (σ : Store) → length (lay σ) ≡ size
unfolding lay
length_lay σ = length_list_of size (λ w. σ (cell_at w))

lay_at : (σ : Store) (w : ℕ) → w < size → get_or (lay σ) w 0 ≡ σ (cell_at w)
unfolding lay
lay_at σ w h = get_d_list_of size (λ w. σ (cell_at w)) w h

-- a room's store, written out, is the room
pub lay_store : (r : List ℕ) → length r ≡ size → lay (store r) ≡ r
unfolding store
lay_store r hl =
    ext_get_or 0 (lay (store r)) r (length_lay (store r) ∙ sym hl)
    (λ w h. let l : w < size = rw (length_lay (store r)) at h in
    let e = covers w l in
    lay_at (store r) w l ∙ rw (e.1, e.0))

-- two rooms with one store are one room
pub onto : (r s : List ℕ) → length r ≡ size → length s ≡ size → store r ≡ store s → r ≡ s
onto r s hr hs e = sym (lay_store r hr) ∙ ap lay e ∙ lay_store s hs

-- a store that has nothing but in the cells of the room, written out and read again, is that store
pub store_lay : (σ : Store) → ((c : Cell) → valid c ≡ false → σ c ≡ 0) → store (lay σ) ≡ σ
unfolding store
store_lay σ none = λ x c. again c x where
  again : (c : Cell) → store (lay σ) c ≡ σ c
  again c =
      by_test (valid c)
      (λ e. let h = valid_within c e in rw e (lay_at σ (at c) (within_lt c h) ∙ ap σ (cell_again c h)))
      (λ e. rw e (sym (none c e)))
