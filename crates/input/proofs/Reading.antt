-- One read after another.
use Rattle.std.proofs.Common.{ℕ, ◌+◌, ◌≤◌, List, ◌++◌, Option, None, Some, length, take, ◌≡◌}
use Rattle.std.proofs.Common.{sym, ap, ◌∙◌, append_assoc, le_refl, drop_at, length-take-le}
use Rattle.std.proofs.Math.Seq.{take-add}
use Rattle.std.proofs.lemmas.List.{take-append-le}
use Rattle.std.proofs.lemmas.Slice.{take-put_mid_below}
use borrow.Rule.Slice.PartMut.{put_mid, post_of}
use Rattle.std.specs.Io.KnownBytes.{Consumes}

-- what both consumed
pub consumes_both : (u v w : Option (List ℕ)) (xs ys : List ℕ) → Consumes u v xs → Consumes v w ys → Consumes u w (xs ++ ys)
consumes_both None v w xs ys p q = tt
consumes_both (Some a) None w xs ys p q = absurd p
consumes_both (Some a) (Some b) None xs ys p q = absurd q
consumes_both (Some a) (Some b) (Some c) xs ys p q = p ∙ ap (λ (l : List ℕ). xs ++ l) q ∙ sym (append_assoc xs ys c)

-- the front after n bytes were read to place a and on
pub front_more : (a n k : ℕ) (xs ys : List ℕ) → a ≤ length xs → n ≤ length ys → take (a + n) (put_mid a k xs ys) ≡ take a xs ++ take n ys
front_more a n k xs ys h l =
    let after = post_of a k xs in
    rw (take-add a n (put_mid a k xs ys), take-put_mid_below a k xs ys a (le_refl a) h, drop_at (take a xs) (ys ++ after) a (length-take-le a xs h))
    (rw (take-append-le n ys after l))
