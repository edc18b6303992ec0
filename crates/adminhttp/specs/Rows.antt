-- The routes as the rows of a router.
use Rattle.std.specs.Prelude.{ℕ, List, [], ◌∷◌, Result, Ok, Err, codes}
use Rattle.matchit.specs.Rows.{RowsOf}
use Rattle.matchit.specs.Order.{placed}
use Rattle.matchit.specs.Route.{Scan, parse_route}
use Rattle.matchit.specs.Router.{RouteOf, route_from}
use Rattle.adminhttp.specs.declared.route.Route.{Route}
use Rattle.adminhttp.specs.declared.route.Route.TheVariants.{Maildrops, Maildrop, Clerks, Clerk, Policy, Groups, Sessions, Session, Explain}

-- the routes with the text of each, in the order of the table
abbrev pub table : List (List ℕ × Route)
table =
    (codes "/maildrops", Maildrops)
    ∷ (codes "/maildrops/{m}", Maildrop)
    ∷ (codes "/clerks", Clerks)
    ∷ (codes "/clerks/{c}", Clerk)
    ∷ (codes "/policy", Policy)
    ∷ (codes "/groups", Groups)
    ∷ (codes "/sessions", Sessions)
    ∷ (codes "/sessions/{n}", Session)
    ∷ (codes "/explain/{clerk}/{maildrop}/{class}/{action}", Explain)
    ∷ []

-- the router's rows with one more route
abbrev pub with_route : {E : Type 0} → RowsOf (RouteOf Route) → Route → Result Scan E → RowsOf (RouteOf Route)
with_route rows r (Ok s) = placed (s.pattern, route_from s r) rows
with_route rows r (Err e) = rows

abbrev pub with_routes : RowsOf (RouteOf Route) → List (List ℕ × Route) → RowsOf (RouteOf Route)
with_routes rows [] = rows
with_routes rows ((text, r) ∷ more) = with_routes (with_route rows r (parse_route text)) more

-- the rows of the table
abbrev pub route_rows : RowsOf (RouteOf Route)
route_rows = with_routes [] table

abbrev pub value_of : RouteOf Route → Route
value_of r = r.value
