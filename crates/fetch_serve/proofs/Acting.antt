-- However a text is cut into pieces, and whenever bytes are sent, a server gives the replies to all of it.
use Rattle.std.proofs.Common.{◌≡◌, ℕ, Bool, false, List, [], ◌∷◌, ◌++◌, take, drop, Option, Some, None, refl, sym, ap, ◌∙◌, append_assoc, subst, take-append-drop}
use Rattle.std.proofs.lemmas.List.{append-nil}
use Rattle.fetch_asked.specs.declared.error.ServeError.{ServeError}
use Rattle.fetch_serve.specs.Acts.{Act, Does, DoesAll, Feeds, Sends, fed_by}
use Rattle.fetch_serve.specs.Replies.{replies_of, replies_to}
use Rattle.fetch_serve.specs.Served.{Data}
use Rattle.fetch_serve.specs.Servings.{Serving, Takes, unfed}
use Rattle.fetch_asked.specs.Texts.{AskedIn, and_more, asked_in, joined}
use Rattle.fetch_asked.proofs.Asking.{asked_in-more, asked_in-nothing}
use Rattle.fetch_serve.proofs.Growing.{replies_to-append}

-- a server that was fed this text, and has sent these bytes
pub record IsAt (d : Data) (text given : List ℕ) (s : Serving) : Type 0 where
  pub served : s.served ≡ d
  pub begun : s.begun ≡ (asked_in d.hash false text).begun
  pub pending : s.pending ≡ (asked_in d.hash false text).rest
  pub given_is : given ++ s.outgoing ≡ replies_of d text
  pub fine : (asked_in d.hash false text).trouble ≡ None

pub at_first : (d : Data) → IsAt d [] [] (unfed d)
at_first d =
    let none = asked_in-nothing d.hash false in
    record {
      served = refl;
      begun = sym (ap (λ (f : AskedIn). f.begun) none);
      pending = sym (ap (λ (f : AskedIn). f.rest) none);
      given_is = sym (ap (λ (f : AskedIn). replies_to d f.whole) none);
      fine = ap (λ (f : AskedIn). f.trouble) none;
    }

-- what a piece asks behind a text
pub asks_on : (d : Data) (text given piece : List ℕ) (s : Serving) → IsAt d text given s
    → asked_in d.hash false (text ++ piece) ≡ joined (asked_in d.hash false text).whole (asked_in s.served.hash s.begun (s.pending ++ piece))
asks_on d text given piece s at =
    let f = asked_in d.hash false text in
    asked_in-more d.hash false text piece ∙ ap (and_more d.hash piece f) at.fine
    ∙ ap (joined f.whole)
    (sym (ap (λ (e : Data). asked_in e.hash s.begun (s.pending ++ piece)) at.served ∙ ap (λ (b : Bool). asked_in d.hash b (s.pending ++ piece)) at.begun
    ∙ ap (λ (l : List ℕ). asked_in d.hash f.begun (l ++ piece)) at.pending))

pub gives_on : (d : Data) (text given piece : List ℕ) (s now : Serving) (why : Option ServeError) → IsAt d text given s → Takes s piece now why → given ++ now.outgoing ≡ replies_of d (text ++ piece)
gives_on d text given piece s now why at takes =
    let f = asked_in d.hash false text in
    let g = asked_in s.served.hash s.begun (s.pending ++ piece) in
    ap (λ (l : List ℕ). given ++ l) (takes.outgoing ∙ ap (λ (e : Data). s.outgoing ++ replies_to e g.whole) at.served)
    ∙ sym (append_assoc given s.outgoing (replies_to d g.whole)) ∙ ap (λ (l : List ℕ). l ++ replies_to d g.whole) at.given_is
    ∙ sym (replies_to-append d f.whole g.whole) ∙ sym (ap (λ (h : AskedIn). replies_to d h.whole) (asks_on d text given piece s at))

pub feeds : (d : Data) (text given piece : List ℕ) (s now : Serving) → IsAt d text given s → Takes s piece now None → IsAt d (text ++ piece) given now
feeds d text given piece s now at takes =
    let on = asks_on d text given piece s at in
    record {
      served = takes.served ∙ at.served;
      begun = takes.begun ∙ sym (ap (λ (h : AskedIn). h.begun) on);
      pending = takes.pending ∙ sym (ap (λ (h : AskedIn). h.rest) on);
      given_is = gives_on d text given piece s now None at takes;
      fine = ap (λ (h : AskedIn). h.trouble) on ∙ takes.trouble;
    }

sends : (d : Data) (text given : List ℕ) (count : ℕ) (s : Serving) → IsAt d text given s → IsAt d text (given ++ take count s.outgoing) (record s { outgoing = drop count s.outgoing })
sends d text given count s at = record {
  served = at.served;
  begun = at.begun;
  pending = at.pending;
  given_is = append_assoc given (take count s.outgoing) (drop count s.outgoing) ∙ ap (λ (l : List ℕ). given ++ l) (take-append-drop count s.outgoing) ∙ at.given_is;
  fine = at.fine;
}

does : (d : Data) (text given first : List ℕ) (act : Act) (s mid : Serving) → IsAt d text given s → Does s act first mid → IsAt d (text ++ fed_by (act ∷ [])) (given ++ first) mid
does d text given first (Feeds piece) s mid at (none, takes) =
    subst (λ (l : List ℕ). IsAt d (text ++ l) (given ++ first) mid) (sym (append-nil piece))
    (subst (λ (l : List ℕ). IsAt d (text ++ piece) l mid) (sym (ap (λ (l : List ℕ). given ++ l) none ∙ append-nil given)) (feeds d text given piece s mid at takes))
does d text given first (Sends count) s mid at (few, is, now) =
    subst (λ (l : List ℕ). IsAt d l (given ++ first) mid) (sym (append-nil text))
    (subst (λ (l : List ℕ). IsAt d text (given ++ l) mid) (sym is) (subst (IsAt d text (given ++ take count s.outgoing)) (sym now) (sends d text given count s at)))

fed_first : (act : Act) (acts : List Act) → fed_by (act ∷ []) ++ fed_by acts ≡ fed_by (act ∷ acts)
fed_first (Feeds piece) acts = append_assoc piece [] (fed_by acts)
fed_first (Sends count) acts = refl

pub does_all : (d : Data) (acts : List Act) (text before given : List ℕ) (s now : Serving) → IsAt d text before s → DoesAll s acts given now → IsAt d (text ++ fed_by acts) (before ++ given) now
does_all d [] text before given s now at (none, same) =
    subst (λ (l : List ℕ). IsAt d l (before ++ given) now) (sym (append-nil text))
    (subst (λ (l : List ℕ). IsAt d text l now) (sym (ap (λ (l : List ℕ). before ++ l) none ∙ append-nil before)) (subst (IsAt d text before) (sym same) at))
does_all d (act ∷ acts) text before given s now at (mid, first, others, is, act_is, acts_are) =
    let on = does_all d acts (text ++ fed_by (act ∷ [])) (before ++ first) others mid now (does d text before first act s mid at act_is) acts_are in
    subst (λ (l : List ℕ). IsAt d l (before ++ given) now) (append_assoc text (fed_by (act ∷ [])) (fed_by acts) ∙ ap (λ (l : List ℕ). text ++ l) (fed_first act acts))
    (subst (λ (l : List ℕ). IsAt d ((text ++ fed_by (act ∷ [])) ++ fed_by acts) l now) (append_assoc before first others ∙ ap (λ (l : List ℕ). before ++ l) (sym is)) on)

-- all that was sent, with what is to be sent, is the replies to all that was fed
pub pieces_give : (d : Data) (acts : List Act) (given : List ℕ) (now : Serving) → DoesAll (unfed d) acts given now
    → (given ++ now.outgoing ≡ replies_of d (fed_by acts)) × ((asked_in d.hash false (fed_by acts)).trouble ≡ None)
pieces_give d acts given now all = let at = does_all d acts [] [] given (unfed d) now (at_first d) all in (at.given_is, at.fine)

-- the same where the last piece is refused
pub refusal_gives : (d : Data) (acts : List Act) (given piece : List ℕ) (s now : Serving) (e : ServeError) → DoesAll (unfed d) acts given s → Takes s piece now (Some e)
    → (given ++ now.outgoing ≡ replies_of d (fed_by acts ++ piece)) × ((asked_in d.hash false (fed_by acts ++ piece)).trouble ≡ Some e)
refusal_gives d acts given piece s now e all takes =
    let at = does_all d acts [] [] given (unfed d) s (at_first d) all in
    (gives_on d (fed_by acts) given piece s now (Some e) at takes, ap (λ (h : AskedIn). h.trouble) (asks_on d (fed_by acts) given piece s at) ∙ takes.trouble)
