-- What was listed by a peer is what is fetched from it.
use Rattle.std.proofs.Common.{Bool, true, false, Option, sym, ap, subst}
use Rattle.fetch_lines.specs.Talks.{Talk}
use Rattle.fetch_conversation.specs.declared.ref_map.Options.{Options}
use Rattle.fetch_remote.specs.Stages.{inquiry_of}
use Rattle.fetch_remote.specs.Steps.{HasListed}
use Rattle.fetch_remote.specs.declared.fetching.options.FetchOptions.{FetchOptions}
use Rattle.fetch_remote.specs.declared.fetching.prepared.Prepared.{Prepared}
use Rattle.fetch_clone.specs.Listed.{IsListed, IsListedBy, ListsAt, Query}
use Rattle.fetch_clone.specs.Reached.{Ways, Line}
use Rattle.fetch_clone.specs.Received.{WasListed}

was-listed-at : {P : Type 0} (told : P → Option Talk) (answers with_head : Bool) (q : Query) (first last : P) (prepared : Prepared) → ListsAt told answers with_head q first last prepared → WasListed answers (told first) (told last) q.remote q.setup prepared
was-listed-at told answers with_head q first last prepared l =
    subst (λ (o : Options). HasListed answers (told first) (told last) (inquiry_of q.remote q.setup.settings o) prepared.listed) (sym (ap (λ (o : FetchOptions). o.map) l.usual)) l.listed

was-listed-by : {G P : Type 0} (w : Ways G P) (before after : Line G P) (q : Query) (peer : P) (prepared : Prepared) (with_head : Bool) (first : P) → IsListedBy w before after q peer prepared with_head first → WasListed w.answers (w.told first) (w.told peer) q.remote q.setup prepared
was-listed-by w before after q peer prepared true first l = was-listed-at w.told w.answers true q first peer prepared l.1
was-listed-by w before after q peer prepared false first l = was-listed-at w.told w.answers false q first peer prepared l.3

pub was-listed : {G P : Type 0} (w : Ways G P) (before after : Line G P) (q : Query) (peer : P) (prepared : Prepared) (l : IsListed w before after q peer prepared) → WasListed w.answers (w.told l.first) (w.told peer) q.remote q.setup prepared
was-listed w before after q peer prepared l = was-listed-by w before after q peer prepared l.with_head l.first l.by
