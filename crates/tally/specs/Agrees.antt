-- What is counted: the scripts whose printout is what is stored of them.
use Rattle.std.specs.Prelude.{ℕ, zero, suc, ◌+◌, ◌-◌, ◌≤◌, ◌<◌, Bool, true, false, cond, Option, None, Some, is_none, List, ◌++◌, ◌≡◌, refl, ltb, length, take, drop, get_or}
use Rattle.std.proofs.lemmas.Bool.{false≢true}
use Rattle.std.proofs.Common.{sym, ap, ◌∙◌, arith, length-append, length-drop, take_at}
use borrow.Author.Tests.{eq-eqb, le-leb, le-ltb}
use Rattle.book.specs.Folds.{count}
use Rattle.book.specs.Cases.{by_test, by_eq}
use Rattle.room.specs.Layout.{size}
use Rattle.room.proofs.Lay.{length_lay}
use Rattle.room.specs.Loops.{count_le}
use Rattle.script.specs.Printout.{printed, blank}
use Rattle.script.specs.Length.{capacity, outcome_fits}
use Rattle.script.specs.Run.{Ran, lent}
use Rattle.tally.specs.Compare.{compared, same_text, text_same}

-- a text's printout beside what is stored of it
abbrev pub verdict : List ℕ → List ℕ → Option ℕ
verdict text stored = compared (printed text) stored 0

-- the bytes from a up to e
abbrev pub part : List ℕ → ℕ → ℕ → List ℕ
part bytes a e = take (e - a) (drop a bytes)

-- the text from a up to b, and what is stored of it from there up to e; where the bytes have no such parts there is no agreement
unfoldable pub verdict_of : List ℕ → ℕ → ℕ → ℕ → Option ℕ
verdict_of bytes a b e =
    cond (ltb b a) (Some 0) (cond (ltb e b) (Some 0) (cond (ltb (length bytes) e) (Some 0) (verdict (part bytes a b) (part bytes b e))))

-- script i has the parts between three cuts
abbrev pub verdict_at : List ℕ → List ℕ → ℕ → Option ℕ
verdict_at bytes cuts i = verdict_of bytes (get_or cuts (i + i) 0) (get_or cuts (i + i + 1) 0) (get_or cuts (i + i + 2) 0)

abbrev pub agrees : List ℕ → List ℕ → ℕ → Bool
agrees bytes cuts i = is_none (verdict_at bytes cuts i)

is_none_lem : (x : Option ℕ) → is_none x ≡ true → x ≡ None
is_none_lem None e = refl
is_none_lem (Some k) e = absurd (false≢true e)

differs : (b : Bool) (x : Option ℕ) → is_none (cond b (Some 0) x) ≡ true → is_none x ≡ true
differs true x e = absurd (false≢true e)
differs false x e = e

-- it agrees exactly if its printout is what is stored
module _ (bytes : List ℕ) (a b e : ℕ) where
  pub agreed : is_none (verdict_of bytes a b e) ≡ true → printed (part bytes a b) ≡ part bytes b e
  unfolding verdict_of
  agreed h = same_text _ _ 0 (is_none_lem _ (differs (ltb (length bytes) e) _ (differs (ltb e b) _ (differs (ltb b a) _ h))))

  pub agreeing : a ≤ b → b ≤ e → e ≤ length bytes → printed (part bytes a b) ≡ part bytes b e → is_none (verdict_of bytes a b e) ≡ true
  unfolding verdict_of
  agreeing h i j q = rw (le-ltb b a h, le-ltb e b i, le-ltb (length bytes) e j, q, text_same (part bytes b e) 0)

all_agree : (n : ℕ) (ok : ℕ → Bool) → count n ok ≡ n → (i : ℕ) → i < n → ok i ≡ true
unfolding count
all_agree zero ok e i l = absurd (omega arith)
all_agree (suc n) ok e i l =
    by_test (ok n)
    (λ r. let f = rw r at e in by_eq i n (λ q _. rw q r) (λ q _. all_agree n ok (omega arith) i (omega arith)))
    (λ r. let f = rw r at e in absurd (omega (arith, count_le n ok)))

-- where as many agree as there are, each printout is what is stored
pub all_printed : (bytes cuts : List ℕ) (n : ℕ) → count n (agrees bytes cuts) ≡ n → (i : ℕ) → i < n
    → printed (part bytes (get_or cuts (i + i) 0) (get_or cuts (i + i + 1) 0)) ≡ part bytes (get_or cuts (i + i + 1) 0) (get_or cuts (i + i + 2) 0)
all_printed bytes cuts n e i l =
    agreed bytes (get_or cuts (i + i) 0) (get_or cuts (i + i + 1) 0) (get_or cuts (i + i + 2) 0) (all_agree n (agrees bytes cuts) e i l)

-- what a run leaves of a room and a buffer that it was lent
pub record Left (text out : List ℕ) (n : ℕ) (left late : List ℕ) : Type 0 where
  pub front : take n late ≡ printed text
  pub words : length left ≡ size
  pub bytes : length late ≡ length out

pub ran : {text room out : List ℕ} {n : ℕ} {left late : List ℕ} → length room ≡ size → capacity ≤ length out
    → Ran text room out n left late → Left text out n left late
ran {text} {room} {out} {n} {left} {late} h l r =
    let e : lent room out ≡ true = rw (eq-eqb (length room) size h, le-leb capacity (length out) l) in
    let p = printed text in
    let c : n ≡ length p = rw e at r.count in
    let b : late ≡ p ++ drop (length p) out = rw e at r.bytes in
    let f = outcome_fits text blank out l in
    record {
      front = rw b (take_at p (drop (length p) out) n (sym c));
      words = rw e at (ap length r.words) ∙ length_lay _;
      bytes = omega (arith, ap length b, length-append p (drop (length p) out), length-drop (length p) out, f.enough);
    }
