-- The events of the system as the program lists them, each with its part.
use Rattle.std.specs.Prelude.{List, map}
use Rattle.sq_model.specs.Systems.{Tag, OfDirectory, OfLedger, OfHome}
use Rattle.sq_audit.specs.declared.tagged.Tagged.{Tagged}
use Rattle.sq_audit.specs.declared.tagged.Tagged.TheVariants.{Directory, Ledger, Home}

abbrev pub tag_of : Tagged → Tag
tag_of (Directory e) = OfDirectory e.now
tag_of (Ledger e) = OfLedger e.now
tag_of (Home i e) = OfHome i e.now

abbrev pub tags_of : List Tagged → List Tag
tags_of ts = map tag_of ts
