-- Replies grow request by request.
use Rattle.std.proofs.Common.{◌≡◌, ℕ, Bool, false, true, List, [], ◌∷◌, ◌++◌, Option, Some, None, Ok, refl, sym, ap, ◌∙◌, append_assoc}
use Rattle.std.proofs.lemmas.List.{append-nil}
use Rattle.fetch_asked.specs.declared.asked.Asked.{Asked}
use Rattle.fetch_asked.specs.declared.error.ServeError.{ServeError}
use Rattle.fetch_serve.specs.Replies.{replies_of, replies_to, reply_text}
use Rattle.fetch_serve.specs.Served.{Data}
use Rattle.fetch_asked.specs.Texts.{AskedIn, and_more, asked_in, request_at}
use Rattle.fetch_asked.proofs.Asking.{asked_in-more, asked_in-nothing, asked_in-one}

pub replies_to-append : (d : Data) (first second : List Asked) → replies_to d (first ++ second) ≡ replies_to d first ++ replies_to d second
replies_to-append d [] second = refl
replies_to-append d (asked ∷ first) second =
    ap (λ (l : List ℕ). reply_text d asked ++ l) (replies_to-append d first second) ∙ sym (append_assoc (reply_text d asked) (replies_to d first) (replies_to d second))

-- before anything was heard nothing is said
pub nothing_first : (d : Data) → replies_of d [] ≡ []
nothing_first d = ap (λ (f : AskedIn). replies_to d f.whole) (asked_in-nothing d.hash false)

more_by : (d : Data) (found : AskedIn) (more : List ℕ) (trouble : Option ServeError) → (added : List ℕ) × (replies_to d (and_more d.hash more found trouble).whole ≡ replies_to d found.whole ++ added)
more_by d found more None =
    let others = asked_in d.hash found.begun (found.rest ++ more) in (replies_to d others.whole, replies_to-append d found.whole others.whole)
more_by d found more (Some e) = ([], sym (append-nil (replies_to d found.whole)))

-- what was said stays, and more may come after it
pub grow : (d : Data) (heard more : List ℕ) → (added : List ℕ) × (replies_of d (heard ++ more) ≡ replies_of d heard ++ added)
grow d heard more =
    let found = asked_in d.hash false heard in
    let by = more_by d found more found.trouble in
    (by.0, ap (λ (f : AskedIn). replies_to d f.whole) (asked_in-more d.hash false heard more) ∙ by.1)

-- behind a trouble nothing is said
pub silent : (d : Data) (heard more : List ℕ) (e : ServeError) → (asked_in d.hash false heard).trouble ≡ Some e → replies_of d (heard ++ more) ≡ replies_of d heard
silent d heard more e is =
    ap (λ (f : AskedIn). replies_to d f.whole) (asked_in-more d.hash false heard more ∙ ap (and_more d.hash more (asked_in d.hash false heard)) is)

-- a request is answered, and then those behind it
pub one_by_one : (d : Data) (begun : Bool) (text rest : List ℕ) (asked : Asked) → request_at d.hash begun text ≡ Ok (asked, rest)
    → replies_to d (asked_in d.hash begun text).whole ≡ reply_text d asked ++ replies_to d (asked_in d.hash true rest).whole
one_by_one d begun text rest asked read = ap (λ (f : AskedIn). replies_to d f.whole) (asked_in-one d.hash begun text rest asked read)
