-- What a mirror lists of its server: all names under `refs/` that are born.
use Rattle.std.proofs.Common.{◌≡◌, ℕ, ◌<◌, ◌≤◌, ◌-◌, true, false, List, [], ◌∷◌, ◌++◌, length, take, drop, Option, Some, None, Result, Ok, Err, refl, sym, ap, ◌∙◌, subst, ⊎_elim, arith, codes, sum_by, take-append-drop}
use Rattle.std.proofs.lemmas.Bool.{cases_lt}
use Rattle.fetch_base.specs.declared.id.Kind.{Kind}
use Rattle.fetch_base.specs.declared.id.Kind.TheVariants.{Sha1, Sha256}
use Rattle.fetch_specs.specs.Categories.{refs}
use Rattle.fetch_specs.specs.Prefixes.{prefixes_of}
use Rattle.fetch_lines.specs.Greetings.{format_in, is_format}
use Rattle.fetch_lines.specs.Lines.{line_len}
use Rattle.fetch_lines.specs.RequestWords.{agent_is, agent_word, format_is, format_word}
use Rattle.fetch_lines.specs.Requests.{agent_text, detail_texts, kind_text, listing_lines, listing_word}
use Rattle.fetch_lines.specs.Talks.{Talk}
use Rattle.fetch_lines.specs.Written.{first_too_long}
use Rattle.fetch_map.specs.declared.mapping.RefMap.{RefMap}
use Rattle.fetch_conversation.specs.Conversation.{Concludes}
use Rattle.fetch_conversation.specs.ListStage.{ListedValue, ls_refs_stage, mapped, prefixes_asked, unsendable}
use Rattle.fetch_conversation.specs.Served.{Follows, IsFresh}
use Rattle.fetch_conversation.specs.declared.prepare.Error.{Error}
use Rattle.fetch_serve.specs.Offered.{capabilities_of, offered_of}
use Rattle.fetch_serve.specs.Peers.{ServedPeer, heard_by, is_troubled, talk_with, told_by}
use Rattle.fetch_serve.specs.Replies.{replies_of, reply_lines}
use Rattle.fetch_serve.specs.Servable.{IsServable}
use Rattle.fetch_serve.specs.Served.{Data}
use Rattle.fetch_asked.specs.Texts.{asked_within, request_bound}
use Rattle.fetch_asked.specs.declared.asked.Asked.TheVariants.{First, Listing}
use Rattle.fetch_serve.proofs.Answered.{answered}
use Rattle.fetch_serve.proofs.Growing.{nothing_first}
use Rattle.fetch_mirror.specs.Born.{born_names}
use Rattle.fetch_mirror.specs.GoingAlong.{GoesAlong}
use Rattle.fetch_mirror.specs.Copying.{fresh}
use Rattle.fetch_mirror.specs.Listings.{AreRising, AreTold, IsHeard, greeting_of}
use Rattle.fetch_mirror.specs.Naming.{everything, inquiry_by, names_of}
use Rattle.fetch_mirror.proofs.Along as along
use Rattle.fetch_mirror.proofs.BornSo.{names_are_born}
use Rattle.fetch_mirror.proofs.ListingAlong.{greeting_too_long, listing_along, listing_too_long}
use Rattle.fetch_mirror.proofs.OwnNames.{map_is}
use Rattle.fetch_mirror.proofs.ServedAlong.{grows}

-- ---- the request

pub no_prefixes : prefixes_of (everything ∷ []) ≡ []
unfolding prefixes_of refs
no_prefixes = refl

pub sendable : (bound : ℕ) → unsendable (inquiry_by bound) ≡ None
unfolding agent_text agent_is
sendable bound = refl

fits : (hash : Kind) → first_too_long (listing_lines (greeting_of hash) (codes "oxide-0.87.1") []) ≡ None
unfolding capabilities_of kind_text agent_text detail_texts listing_word agent_word agent_is format_word format_is is_format format_in
fits Sha1 = refl
fits Sha256 = refl

short : (hash : Kind) → sum_by line_len (listing_lines (greeting_of hash) (codes "oxide-0.87.1") []) ≤ request_bound
unfolding capabilities_of kind_text agent_text detail_texts listing_word agent_word agent_is format_word format_is is_format format_in
short Sha1 = omega arith
short Sha256 = omega arith

module _ (d : Data) (servable : IsServable d) (bound : ℕ) where
  told : AreTold d []
  told = record { greeting = answered d First servable refl; listing = answered d (Listing true []) servable refl }

  pub heard : IsHeard d (inquiry_by bound)
  heard = record {
    servable = servable;
    told = subst (AreTold d) (sym no_prefixes) told;
    inquiry = record { address = refl; plain = refl; sendable = sendable bound };
    rising = subst (λ (prefixes : List (List ℕ)). AreRising [] prefixes) (sym no_prefixes) tt;
    fits = subst (λ (prefixes : List (List ℕ)). first_too_long (listing_lines (greeting_of d.hash) (codes "oxide-0.87.1") prefixes) ≡ None) (sym no_prefixes) (fits d.hash);
    short = subst (λ (prefixes : List (List ℕ)). sum_by line_len (listing_lines (greeting_of d.hash) (codes "oxide-0.87.1") prefixes) ≤ request_bound) (sym no_prefixes) (short d.hash);
  }

  -- what was listed is what is offered
  offered : (l : ListedValue) → mapped (inquiry_by bound) (greeting_of d.hash) (offered_of d true (prefixes_asked (inquiry_by bound))) ≡ Ok l → names_of l.ref_map.remote_refs ≡ born_names d
  offered l is =
      ap (λ (m : RefMap). names_of m.remote_refs) (sym (map_is (inquiry_by bound) (greeting_of d.hash) (offered_of d true (prefixes_asked (inquiry_by bound))) l is))
      ∙ ap (λ (prefixes : List (List ℕ)). names_of (offered_of d true prefixes)) no_prefixes
      ∙ names_are_born d true

  module _ (old : Option Talk) (new : Talk) (l : ListedValue) (rest : List ℕ) (fresh : IsFresh (replies_of d) old) (follows : Follows (replies_of d) new)
      (held : Concludes true bound old (Some new) [] (ls_refs_stage bound (inquiry_by bound)) l rest) where
    along_it : (sent : _) (answer : Result ListedValue Error) → GoesAlong bound (replies_of d) [] (ls_refs_stage bound (inquiry_by bound)) sent answer → answer ≡ Ok l
    along_it sent answer g =
        sym g.is ∙ along.concluded (replies_of d) true bound old new (ls_refs_stage bound (inquiry_by bound)) l rest (grows d) (nothing_first d) g.so fresh follows held

    never_so : (e : Error) → Err e ≡ Ok l → names_of l.ref_map.remote_refs ≡ born_names d
    never_so e is = absurd cc

    pub names_so : names_of l.ref_map.remote_refs ≡ born_names d
    names_so =
        ⊎_elim
        (λ (long : bound < sum_by line_len (reply_lines d First)). never_so _ (along_it _ _ (greeting_too_long d bound (inquiry_by bound) heard long)))
        (λ (whole : sum_by line_len (reply_lines d First) ≤ bound). ⊎_elim
        (λ (long : bound < sum_by line_len (reply_lines d (Listing true (prefixes_asked (inquiry_by bound))))). never_so _ (along_it _ _ (listing_too_long d bound (inquiry_by bound) heard whole long)))
        (λ (fitting : sum_by line_len (reply_lines d (Listing true (prefixes_asked (inquiry_by bound)))) ≤ bound). offered l (along_it _ _ (listing_along d bound (inquiry_by bound) heard whole fitting)))
        (cases_lt bound (sum_by line_len (reply_lines d (Listing true (prefixes_asked (inquiry_by bound)))))))
        (cases_lt bound (sum_by line_len (reply_lines d First)))

-- ---- the talk of a peer

nothing_troubled : (d : Data) → is_troubled d [] ≡ false
unfolding asked_within
nothing_troubled d = refl

-- a peer that was sent nothing has said nothing
pub fresh_peer : (d : Data) → IsFresh (replies_of d) (told_by (fresh d))
unfolding asked_within
fresh_peer d = ap (λ (r : List ℕ). Some (record { heard = []; given = take (length r - 0) r; to_come = drop (length r - 0) r; receives = []; rule = Some (replies_of d) })) (nothing_first d)

-- a peer with the rule of this server follows it
pub follows_rule : (d : Data) (p : ServedPeer) (t : Talk) → told_by p ≡ Some t → t.rule ≡ Some (replies_of d) → Follows (replies_of d) t
follows_rule d p t is rule =
    let heard = heard_by p.served p.heard in
    let r = replies_of p.served heard in
    let talk : talk_with p heard r ≡ t = cc in
    let same : replies_of p.served ≡ replies_of d = (let rules : Some (replies_of p.served) ≡ Some (replies_of d) = ap (λ (x : Talk). x.rule) talk ∙ rule in cc) in
    record { followed = sym (ap (λ (x : Talk). x.given ++ x.to_come) talk) ∙ take-append-drop (length r - p.left) r ∙ ap (λ (f : List ℕ → List ℕ). f heard) same ∙ ap (λ (x : Talk). replies_of d x.heard) talk }
