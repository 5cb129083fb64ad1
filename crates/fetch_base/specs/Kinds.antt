-- The kinds of objects.
use Rattle.std.specs.Prelude.{Bool, true, false}
use Rattle.fetch_base.specs.declared.object_kind.ObjectKind.{ObjectKind}
use Rattle.fetch_base.specs.declared.object_kind.ObjectKind.TheVariants as objects

-- whether two kinds are one
abbrev pub is_kind : ObjectKind → ObjectKind → Bool
is_kind objects.Commit objects.Commit = true
is_kind objects.Tree objects.Tree = true
is_kind objects.Blob objects.Blob = true
is_kind objects.Tag objects.Tag = true
is_kind _ _ = false
