-- Which queues are listed, and their names.
use Rattle.std.specs.Prelude.{ℕ, List, Bool, map, filter}
use Rattle.sq_model.specs.declared.directory.Queue.{Queue}
use Rattle.sq_model.specs.Directories.{begins, is_source_of}
use Rattle.sq_directory.specs.declared.listing.Listing.{Listing}
use Rattle.sq_directory.specs.declared.listing.Listing.TheVariants.{Begins, SourcesOf}

abbrev pub is_listed : Listing → Queue → Bool
is_listed (Begins prefix) queue = begins prefix queue.name
is_listed (SourcesOf number) queue = is_source_of number queue

abbrev pub listed_names : Listing → List Queue → List (List ℕ)
listed_names listing queues = map (λ queue. queue.name) (filter (is_listed listing) queues)
