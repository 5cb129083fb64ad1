-- What a run comes to by its status, and by what is answered.
use Rattle.std.proofs.Common.{◌≡◌, ◌⊎◌, ℕ, ◌≤◌, List, Option, Result, Ok, Err, sym, subst, inl, inr, arith}
use Rattle.std.specs.Prelude.{IfOk, IsOkAnd}
use Rattle.fetch_cli.specs.Run.{Are, IsUnlessFailed}
use Rattle.fetch_cli.specs.Written.{IsAnswered, Writes, WritesBy, WritesFront}

-- the six statuses
six : (n : ℕ) → n ≤ 5 → (n ≡ 0) ⊎ ((n ≡ 1) ⊎ ((n ≡ 2) ⊎ ((n ≡ 3) ⊎ ((n ≡ 4) ⊎ (n ≡ 5)))))
six n h = grind arith

low : (n : ℕ) → n ≤ 1 → (n ≡ 0) ⊎ (n ≡ 1)
low n h = grind arith

module _ (is : ℕ → List ℕ → Type 0) (old new : Option (List ℕ)) (nothing : Type 0) (result : ℕ) where
  -- a low status is that of an answer that is written whole
  low_by : (result ≡ 0) ⊎ (result ≡ 1) → WritesBy is old new nothing result → Writes is old new result
  low_by (inl zero) w = subst (Writes is old new) (sym zero) (w.done zero)
  low_by (inr one) w = subst (Writes is old new) (sym one) (w.refused one)

  pub low_written : result ≤ 1 → WritesBy is old new nothing result → Writes is old new result
  low_written h w = low_by (low result h) w

  unless_by : (wanted : ℕ) → ((status : ℕ) (text : List ℕ) → is status text → status ≡ wanted) → (result ≡ 0) ⊎ ((result ≡ 1) ⊎ ((result ≡ 2) ⊎ ((result ≡ 3) ⊎ ((result ≡ 4) ⊎ (result ≡ 5))))) → WritesBy is old new nothing result → IsUnlessFailed result wanted
  unless_by wanted one (inl is0) w = let x = w.done is0 in let y = one 0 x.text x.answer in inl cc
  unless_by wanted one (inr (inl is1)) w = let x = w.refused is1 in let y = one 1 x.text x.answer in inl cc
  unless_by wanted one (inr (inr (inl is2))) w = inr (inl is2)
  unless_by wanted one (inr (inr (inr (inl is3)))) w = inr (inr (inl is3))
  unless_by wanted one (inr (inr (inr (inr (inl is4))))) w = let x = w.malformed is4 in let y = one 4 x.text x.answer in inl cc
  unless_by wanted one (inr (inr (inr (inr (inr is5))))) w = inr (inr (inr is5))

  -- where all answers have one status, the result is that one, but where an end failed or memory ran out
  pub unless_failed : (wanted : ℕ) → ((status : ℕ) (text : List ℕ) → is status text → status ≡ wanted) → WritesBy is old new nothing result → IsUnlessFailed result wanted
  unless_failed wanted one w = unless_by wanted one (six result w.known) w

-- ---- an answer, if there is one

module _ {A E : Type 0} (is : ℕ → List ℕ → Type 0) (status_of : A → ℕ) (text_of : A → List ℕ) where
  pub answer_of : (found : Result A E) → IfOk found (λ x. is (status_of x) (text_of x)) → (status : ℕ) (text : List ℕ) → IsOkAnd found (λ x. Are (status_of x) (text_of x) status text) → is status text
  answer_of (Ok x) h status text are = rw (are.0, are.1) h
  answer_of (Err e) h status text are = elim are [ ]

  pub known_of : ((status : ℕ) (text : List ℕ) → is status text → IsAnswered status) → (found : Result A E) → IfOk found (λ x. is (status_of x) (text_of x)) → IfOk found (λ x. IsAnswered (status_of x))
  known_of known (Ok x) h = known (status_of x) (text_of x) h
  known_of known (Err e) h = h

-- what is written is one of the answers that each of these is
module _ (some all : ℕ → List ℕ → Type 0) (old new : Option (List ℕ)) (nothing : Type 0) (result : ℕ) where
  whole_of : ((status : ℕ) (text : List ℕ) → some status text → all status text) → (status : ℕ) → Writes some old new status → Writes all old new status
  whole_of of status w = record { text = w.text; answer = of status w.text w.answer; wrote = w.wrote }

  front_of : ((status : ℕ) (text : List ℕ) → some status text → all status text) → WritesFront some old new → WritesFront all old new
  front_of of w = record { status = w.status; text = w.text; answer = of w.status w.text w.answer; front = w.front; is_front = w.is_front; wrote = w.wrote }

  ended_of : ((status : ℕ) (text : List ℕ) → some status text → all status text) → nothing ⊎ WritesFront some old new → nothing ⊎ WritesFront all old new
  ended_of of (inl none) = inl none
  ended_of of (inr front) = inr (front_of of front)

  pub written_of : ((status : ℕ) (text : List ℕ) → some status text → all status text) → WritesBy some old new nothing result → WritesBy all old new nothing result
  written_of of w = record {
    done = λ is. whole_of of 0 (w.done is);
    refused = λ is. whole_of of 1 (w.refused is);
    unread = w.unread;
    failed = λ is. front_of of (w.failed is);
    malformed = λ is. whole_of of 4 (w.malformed is);
    memory = λ is. ended_of of (w.memory is);
    known = w.known;
  }
