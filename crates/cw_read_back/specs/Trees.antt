pub mod ReadBack
pub mod UnplacedItems
pub mod UnplacedStatements
