-- The requests of a text, one after another, and what more bytes do to them.
use Rattle.std.proofs.Common.{◌≡◌, ℕ, zero, suc, ◌+◌, ◌≤◌, Bool, true, List, [], ◌∷◌, ◌++◌, length, Option, Some, None, Result, Ok, Err, refl, sym, ap, ◌∙◌, arith, length-append}
use Rattle.fetch_base.specs.declared.id.Kind.{Kind}
use Rattle.fetch_replies.specs.declared.replies.reply.ReplyError.{ReplyError}
use Rattle.fetch_replies.specs.declared.replies.reply.ReplyError.TheVariants.{Short, Broken, TooLong, Said}
use Rattle.fetch_lines.specs.Lines.{line_at}
use Rattle.fetch_replies.specs.StepLaws.{IsSettled, with_more, read_by-more}
use Rattle.fetch_replies.specs.Stepping.{read_within}
use Rattle.fetch_asked.specs.declared.asked.Asked.{Asked}
use Rattle.fetch_asked.specs.declared.error.ServeError.{ServeError}
use Rattle.fetch_asked.specs.Requests.{asked_step, start_of}
use Rattle.fetch_asked.specs.Texts.{AskedIn, IsBegun, asked_in, asked_within, and_more, and_others, ends_at, request_at, request_bound, with_first}
use Rattle.fetch_asked.proofs.Consumed.{IsTaken, taken}

-- bytes at the front that are one request, before any rest
abbrev pub IsOne : Kind → Bool → Asked → List ℕ → List ℕ → Type 0
IsOne hash begun asked rest text = IsTaken (asked_step hash) request_bound 0 (start_of begun) asked rest text

pub one : (hash : Kind) (begun : Bool) (text rest : List ℕ) (asked : Asked) → request_at hash begun text ≡ Ok (asked, rest) → IsOne hash begun asked rest text
one hash begun text rest asked read = taken (asked_step hash) request_bound 0 (start_of begun) text rest asked read

-- nothing is the beginning of a request
pub nothing_yet : (hash : Kind) (begun : Bool) → request_at hash begun [] ≡ Err (Short 0)
unfolding read_within line_at
nothing_yet hash begun = refl

some_byte : (hash : Kind) (begun : Bool) (asked : Asked) (front : List ℕ) → request_at hash begun (front ++ []) ≡ Ok (asked, []) → 1 ≤ length front
some_byte hash begun asked [] read = let none = nothing_yet hash begun in absurd (cc)
some_byte hash begun asked (b ∷ bytes) read = omega arith

-- what is behind a request is shorter
pub shorter : (hash : Kind) (begun : Bool) (text rest : List ℕ) (asked : Asked) → request_at hash begun text ≡ Ok (asked, rest) → length rest + 1 ≤ length text
shorter hash begun text rest asked read =
    let o = one hash begun text rest asked read in
    let some = some_byte hash begun asked o.front (o.others []) in
    let l = ap length o.is ∙ length-append o.front rest in omega arith

others_same : (hash : Kind) (begun : Bool) (text : List ℕ) (f g : List ℕ → AskedIn) (found : Result (Asked × List ℕ) ReplyError) → request_at hash begun text ≡ found
    → ((rest : List ℕ) → length rest + 1 ≤ length text → f rest ≡ g rest) → and_others begun text f found ≡ and_others begun text g found
others_same hash begun text f g (Ok x) is same = ap (with_first x.0) (same x.1 (shorter hash begun text x.1 x.0 is))
others_same hash begun text f g (Err (Short place)) is same = refl
others_same hash begun text f g (Err (Broken place)) is same = refl
others_same hash begun text f g (Err TooLong) is same = refl
others_same hash begun text f g (Err (Said said)) is same = refl

no_bytes : (text : List ℕ) → length text ≤ 0 → text ≡ []
no_bytes [] le = refl
no_bytes (b ∷ bytes) le = absurd (omega arith)

at_nothing : (hash : Kind) (begun : Bool) (text : List ℕ) (f : List ℕ → AskedIn) → length text ≤ 0 → and_others begun text f (request_at hash begun text) ≡ ends_at begun text None
at_nothing hash begun text f le =
    let none : request_at hash begun text ≡ Err (Short 0) = ap (request_at hash begun) (no_bytes text le) ∙ nothing_yet hash begun in
    rw none refl

-- more requests than bytes are never read
enough : (n m : ℕ) (hash : Kind) (begun : Bool) (text : List ℕ) → length text ≤ n → length text ≤ m → asked_within n hash begun text ≡ asked_within m hash begun text
unfolding asked_within
enough zero zero hash begun text le le' = refl
enough zero (suc m) hash begun text le le' = sym (at_nothing hash begun text (asked_within m hash true) le)
enough (suc n) zero hash begun text le le' = at_nothing hash begun text (asked_within n hash true) le'
enough (suc n) (suc m) hash begun text le le' =
    others_same hash begun text (asked_within n hash true) (asked_within m hash true) (request_at hash begun text) refl (λ rest few. enough n m hash true rest (omega arith) (omega arith))

step_by : (hash : Kind) (begun : Bool) (text : List ℕ) → asked_in hash begun text ≡ and_others begun text (asked_in hash true) (request_at hash begun text)
unfolding asked_within
step_by hash begun [] = sym (at_nothing hash begun [] (asked_in hash true) (omega arith))
step_by hash begun (b ∷ bytes) =
    others_same hash begun (b ∷ bytes) (asked_within (length bytes) hash true) (asked_in hash true) (request_at hash begun (b ∷ bytes)) refl
    (λ rest few. enough (length bytes) (length rest) hash true rest (omega arith) (omega arith))

-- a text is its first request, and what follows it
pub asked_in-step : (hash : Kind) (begun : Bool) (text : List ℕ) → asked_in hash begun text ≡ and_others begun text (asked_in hash true) (request_at hash begun text)
asked_in-step hash begun text = step_by hash begun text

-- of the beginning of a request nothing is whole
pub asked_in-begun : (hash : Kind) (begun : Bool) (text : List ℕ) → IsBegun hash begun text → asked_in hash begun text ≡ ends_at begun text None
asked_in-begun hash begun text (place, short) = asked_in-step hash begun text ∙ ap (and_others begun text (asked_in hash true)) short

-- nothing asks nothing
pub asked_in-nothing : (hash : Kind) (begun : Bool) → asked_in hash begun [] ≡ ends_at begun [] None
asked_in-nothing hash begun = asked_in-begun hash begun [] (0, nothing_yet hash begun)

-- behind a request come the others
pub asked_in-one : (hash : Kind) (begun : Bool) (text rest : List ℕ) (asked : Asked) → request_at hash begun text ≡ Ok (asked, rest) → asked_in hash begun text ≡ with_first asked (asked_in hash true rest)
asked_in-one hash begun text rest asked read = asked_in-step hash begun text ∙ ap (and_others begun text (asked_in hash true)) read

first_more : (hash : Kind) (more : List ℕ) (asked : Asked) (found : AskedIn) (trouble : Option ServeError) → and_more hash more (with_first asked found) trouble ≡ with_first asked (and_more hash more found trouble)
first_more hash more asked found None = refl
first_more hash more asked found (Some e) = refl

request-more : (hash : Kind) (begun : Bool) (text more : List ℕ) → IsSettled (request_at hash begun text) → request_at hash begun (text ++ more) ≡ with_more (request_at hash begun text) more
request-more hash begun text more settled = read_by-more (asked_step hash) request_bound 0 (start_of begun) text more settled

more_by : (n : ℕ) (hash : Kind) (begun : Bool) (text more : List ℕ) (found : Result (Asked × List ℕ) ReplyError) → request_at hash begun text ≡ found → length text ≤ n
    → ((rest : List ℕ) → length rest + 1 ≤ length text → asked_in hash true (rest ++ more) ≡ and_more hash more (asked_in hash true rest) (asked_in hash true rest).trouble)
    → and_others begun (text ++ more) (asked_in hash true) (request_at hash begun (text ++ more))
    ≡ and_more hash more (and_others begun text (asked_in hash true) found) (and_others begun text (asked_in hash true) found).trouble
more_by n hash begun text more (Ok x) is le again =
    let longer : request_at hash begun (text ++ more) ≡ Ok (x.0, x.1 ++ more) = request-more hash begun text more (λ p e. cc) ∙ ap (λ f. with_more f more) is in
    rw longer (ap (with_first x.0) (again x.1 (shorter hash begun text x.1 x.0 is)) ∙ sym (first_more hash more x.0 (asked_in hash true x.1) (asked_in hash true x.1).trouble))
more_by n hash begun text more (Err (Short place)) is le again = sym (asked_in-step hash begun (text ++ more))
more_by n hash begun text more (Err (Broken place)) is le again =
    let longer : request_at hash begun (text ++ more) ≡ Err (Broken place) = request-more hash begun text more (λ p e. cc) ∙ ap (λ f. with_more f more) is in
    rw longer refl
more_by n hash begun text more (Err TooLong) is le again =
    let longer : request_at hash begun (text ++ more) ≡ Err TooLong = request-more hash begun text more (λ p e. cc) ∙ ap (λ f. with_more f more) is in
    rw longer refl
more_by n hash begun text more (Err (Said said)) is le again = sym (asked_in-step hash begun (text ++ more))

more_within : (n : ℕ) (hash : Kind) (begun : Bool) (text more : List ℕ) → length text ≤ n → asked_in hash begun (text ++ more) ≡ and_more hash more (asked_in hash begun text) (asked_in hash begun text).trouble
more_within zero hash begun text more le =
    asked_in-step hash begun (text ++ more) ∙ more_by zero hash begun text more (request_at hash begun text) refl le (λ rest few. absurd (omega arith))
    ∙ ap (λ (f : AskedIn). and_more hash more f f.trouble) (sym (asked_in-step hash begun text))
more_within (suc n) hash begun text more le =
    asked_in-step hash begun (text ++ more) ∙ more_by (suc n) hash begun text more (request_at hash begun text) refl le (λ rest few. more_within n hash true rest more (omega arith))
    ∙ ap (λ (f : AskedIn). and_more hash more f f.trouble) (sym (asked_in-step hash begun text))

-- What a text asks stays when more bytes come: they are read on behind it, and behind a trouble nothing is.
pub asked_in-more : (hash : Kind) (begun : Bool) (text more : List ℕ) → asked_in hash begun (text ++ more) ≡ and_more hash more (asked_in hash begun text) (asked_in hash begun text).trouble
asked_in-more hash begun text more = more_within (length text) hash begun text more (omega arith)
