-- What a server of version 1 can tell.
use Rattle.std.specs.Prelude.{◌≡◌, ◌≢◌, List, [], None, IfSome}
use Rattle.fetch_base.specs.Lines.{IsWithout}
use Rattle.fetch_base.specs.declared.id.Kind.{Kind}
use Rattle.fetch_lines.specs.declared.greetings.handshake.Capability.{Capability}
use Rattle.fetch_lines.specs.declared.listings.reference.Ref.{Ref}
use Rattle.fetch_replies.specs.Advertisements.{before_peel, target_among}
use Rattle.fetch_lines.specs.References.{name_in, id_in, peeled_in, target_in}
use Rattle.fetch_lines.specs.ServerLines.{capability_text, IsIdOf}

-- no space divides a capability's text
abbrev pub IsOneWord : Capability → Type 0
IsOneWord c = IsWithout 32 (capability_text c)

-- A reference that an advertisement can tell: it has an id of this kind, its name isn't empty, holds no NUL and doesn't end
-- in `^{}`, and the capabilities tell its target.
pub record IsAdvertisable (kind : Kind) (capabilities : List Capability) (r : Ref) : Type 0 where
  pub born : id_in r ≢ None
  pub id : IfSome (id_in r) (IsIdOf kind)
  pub name : name_in r ≢ []
  pub whole : IsWithout 0 (name_in r)
  pub unpeeled : before_peel (name_in r) ≡ None
  pub target : target_among (name_in r) capabilities ≡ target_in r
  pub peeled : IfSome (peeled_in r) (IsIdOf kind)
