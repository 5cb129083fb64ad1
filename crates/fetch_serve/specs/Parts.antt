-- What lent parts hold.
use Rattle.fetch_serve.specs.Served.{Data, data_of}
use Rattle.fetch_serve.specs.declared.parts.Parts.{Parts}

-- the objects and the references of a server's parts
abbrev pub held_by : Parts → Data
held_by parts = data_of parts.store.now parts.refs.now
