-- A remote's section that takes the place of others stands alone.
use Rattle.std.proofs.Common.{◌≡◌, ℕ, Bool, true, false, List, [], ◌∷◌, length, None, refl, sym, ap, ◌∙◌}
use Rattle.std.specs.Prelude.{filter}
use Rattle.fetch_config.specs.Contents.{Contents}
use Rattle.fetch_config.specs.declared.meta.Meta.{Meta}
use Rattle.fetch_config.specs.declared.section.Section.{Section}
use Rattle.fetch_lookup.specs.Saved.{is_of_remote, last_place, new_section, placed_in, saved, saved_lines, used_or_new, with_lines}
use Rattle.fetch_create.specs.Replacing.{replaced}
use Rattle.fetch_create.proofs.Alone.{stands-alone}
use Rattle.fetch_remote.specs.Remotes.{RemoteValue, parts_of}
use Rattle.fetch_remote.specs.RepositoryValues.{Setup}
use Rattle.fetch_init.specs.RemoteSections.{section_of}

-- in a file without sections none is used
none-used : (is_new : Bool) (meta : Meta) (name : List ℕ) → used_or_new is_new meta name [] ≡ None
unfolding last_place
none-used true meta name = refl
none-used false meta name = refl

-- the section that a remote is saved as
abbrev saved_section : Setup → RemoteValue → List ℕ → Section
saved_section setup remote name =
    with_lines (saved_lines (record { meta = setup.local.meta; sections = [] }) name (parts_of remote)) (new_section setup.local.meta name)

alone-saved : (setup : Setup) (remote : RemoteValue) (name : List ℕ) → (section_of setup remote name).sections ≡ saved_section setup remote name ∷ []
unfolding saved
alone-saved setup remote name =
    let lines = saved_lines (record { meta = setup.local.meta; sections = [] }) name (parts_of remote) in
    ap (λ used. placed_in used (new_section setup.local.meta name) lines []) (none-used _ setup.local.meta name)

pub one-section : (setup : Setup) (remote : RemoteValue) (name : List ℕ) → length (section_of setup remote name).sections ≡ 1
one-section setup remote name = ap length (alone-saved setup remote name)

pub only-section : (setup : Setup) (remote : RemoteValue) (name : List ℕ) (file : Contents)
    → filter (is_of_remote name) (replaced (section_of setup remote name).sections file).sections ≡ (section_of setup remote name).sections
only-section setup remote name file =
    ap (λ news. filter (is_of_remote name) (replaced news file).sections) (alone-saved setup remote name)
    ∙ stands-alone (saved_section setup remote name) file
    ∙ sym (alone-saved setup remote name)
