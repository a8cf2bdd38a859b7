mod RowTests
